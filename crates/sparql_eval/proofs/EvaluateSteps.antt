-- One operator after another, while the dictionary grows.
use Rattle.std.proofs.Common.{◌≡◌, ℕ, ◌<◌, List, ◌++◌, length, Option, None, Some, refl, sym, ap, ◌∙◌, subst, get_or, nat_lt, true, Bool, filter, Result, IfOk}
use Rattle.std.specs.List.{list_all, All}
use Rattle.std.specs.Option.{option_map, ForSome}
use Rattle.std.proofs.lemmas.Bool.Decides.{Decides-ltb}
use Rattle.std.proofs.lemmas.List.Sums.{AllPass-from_list_all}
use Rattle.std.proofs.lemmas.List.Sorted.{IsPermutation-refl, IsPermutation-trans}
use Rattle.std.proofs.lemmas.Result.{IfOk-weaker}
use Rattle.rdf_core.specs.declared.term.Term.{Term}
use Rattle.rdf_core.proofs.TermLaws.{term_eq, term_decides}
use Rattle.algebra_model.specs.Operators.{join, left_join, minus, extend, project, distinct}
use Rattle.algebra_model.proofs.CongruenceLaws.{join-IsSameBag, left_join-IsSameBag, minus-IsSameBag, union-IsSameBag, filter-IsSameBag, extend-IsSameBag, project-IsSameBag, distinct-IsSameBag}
use Rattle.algebra_model.specs.Bag.{IsSameBag}
use Rattle.algebra_model.specs.Eval.{eval}
use Rattle.algebra_model.specs.Laws.{KeepsBags, KeepsBagsOfTwo}
use Rattle.algebra_model.specs.Solution.{Solution}
use Rattle.dict_core.specs.Dict.{IsGrown, term_at}
use Rattle.dict_core.specs.NumQuad.{AreBelow, quads_at}
use Rattle.dict_core.specs.declared.num_quad.NumQuad.{NumQuad}
use Rattle.dict_core.proofs.InsertLaws.{get-grown}
use Rattle.dict_core.proofs.NumberingLaws.{quads-kept}
use Rattle.row_core.specs.RowList.{RowList}
use Rattle.sparql_algebra.specs.AlgebraOf.{algebra_of}
use Rattle.sparql_algebra.specs.declared.operator.Operator.{Operator}
use Rattle.sparql_eval.specs.Evaluated.{AreKnown, IsEvaluated, solutions_of}
use Rattle.sparql_eval.specs.TreeSolutions.{tree_solutions}
use Rattle.sparql_eval.proofs.ReadingLaws.{grown_itself, number_kept, rows_kept, grown_twice}

-- both inputs of an operator, evaluated one after the other
pub record AreEvaluated
    (terms : List Term) (width : ℕ) (A B : List (Solution Term))
    (left right : RowList) (terms' : List Term) : Type 0 where
  pub grown : IsGrown terms terms'
  pub wide_left : left.width ≡ width
  pub wide_right : right.width ≡ width
  pub known_left : AreKnown terms' left
  pub known_right : AreKnown terms' right
  pub bag_left : IsSameBag (solutions_of terms' left) A
  pub bag_right : IsSameBag (solutions_of terms' right) B

pub then_one : (t0 t1 t2 : List Term) (w w' : ℕ) (F : List (Solution Term) → List (Solution Term)) → KeepsBags F → (A : List (Solution Term)) (rows made : RowList)
    → IsEvaluated t0 w A rows t1 → IsEvaluated t1 w' (F (solutions_of t1 rows)) made t2 → IsEvaluated t0 w' (F A) made t2
then_one t0 t1 t2 w w' F keeps A rows made h k = record {
  grown = grown_twice t0 t1 t2 h.grown k.grown;
  wide = k.wide;
  known = k.known;
  bag = IsPermutation-trans (solutions_of t2 made) (F (solutions_of t1 rows)) (F A) k.bag (keeps (solutions_of t1 rows) A h.bag);
}

both : (t0 t1 t2 : List Term) (w : ℕ) (A B : List (Solution Term)) (left right : RowList) → IsEvaluated t0 w A left t1 → IsEvaluated t1 w B right t2 → AreEvaluated t0 w A B left right t2
both t0 t1 t2 w A B left right h k =
    let kept = rows_kept t1 t2 k.grown left.rows h.known in
    record {
      grown = grown_twice t0 t1 t2 h.grown k.grown;
      wide_left = h.wide;
      wide_right = k.wide;
      known_left = kept.0;
      known_right = k.known;
      bag_left = subst (λ (s : List (Solution Term)). IsSameBag s A) (sym kept.1) h.bag;
      bag_right = k.bag;
    }

pub then_two : (t0 t1 t2 : List Term) (w w' : ℕ) (F : List (Solution Term) → List (Solution Term) → List (Solution Term)) → KeepsBagsOfTwo F → (A B : List (Solution Term)) (left right made : RowList)
    → AreEvaluated t0 w A B left right t1 → w' ≡ w → IsEvaluated t1 w' (F (solutions_of t1 left) (solutions_of t1 right)) made t2 → IsEvaluated t0 w (F A B) made t2
then_two t0 t1 t2 w w' F keeps A B left right made h e k = record {
  grown = grown_twice t0 t1 t2 h.grown k.grown;
  wide = k.wide ∙ e;
  known = k.known;
  bag = IsPermutation-trans (solutions_of t2 made) (F (solutions_of t1 left) (solutions_of t1 right)) (F A B) k.bag
      (keeps (solutions_of t1 left) A (solutions_of t1 right) B h.bag_left h.bag_right);
}

module _ (terms terms' : List Term) (grown : IsGrown terms terms') where
  pub index_kept : (D : List NumQuad) → AreBelow (length terms) D → AreBelow (length terms') D × (quads_at terms' D ≡ quads_at terms D)
  index_kept D below = quads-kept terms terms' (get-grown terms terms' grown) D below

  pub active_kept : (g : Option ℕ) → ForSome g (λ n. n < length terms) → ForSome g (λ n. n < length terms') × (option_map (term_at terms') g ≡ option_map (term_at terms) g)
  active_kept None h = ((λ n e. cc), refl)
  active_kept (Some n) h =
      let k = number_kept terms terms' grown n (h n refl) in
      ((λ m e. let same : n ≡ m = cc in subst (λ x. x < length terms') same k.0), ap Some k.1)

  -- a tree has the same solutions through a dictionary that has grown
  pub tree_kept : (D : List NumQuad) (w : ℕ) (g : Option ℕ) (tree : Operator) → AreBelow (length terms) D → ForSome g (λ n. n < length terms) → tree_solutions terms' D w g tree ≡ tree_solutions terms D w g tree
  tree_kept D w g tree below named = λ i. eval w ((index_kept D below).1 i) ((active_kept g named).1 i) (algebra_of tree)

-- ---- the result if no allocation fails

pub as_whole : {E : Type 0} (t0 : List Term) (w : ℕ) (r : Result (RowList × List Term) E) (A whole : List (Solution Term)) → whole ≡ A → IfOk r (λ x. IsEvaluated t0 w A x.0 x.1) → IfOk r (λ x. IsEvaluated t0 w whole x.0 x.1)
as_whole t0 w r A whole is k = subst (λ (W : List (Solution Term)). IfOk r (λ x. IsEvaluated t0 w W x.0 x.1)) (sym is) k

pub after_one : {E : Type 0} (t0 t1 : List Term) (w : ℕ) (r : Result (RowList × List Term) E) (F : List (Solution Term) → List (Solution Term)) → KeepsBags F → (A : List (Solution Term)) (rows : RowList)
    → IsEvaluated t0 w A rows t1
    → IfOk r (λ x. IsEvaluated t1 rows.width (F (solutions_of t1 rows)) x.0 x.1) → IfOk r (λ x. IsEvaluated t0 w (F A) x.0 x.1)
after_one t0 t1 w r F keeps A rows h k =
    IfOk-weaker r (λ x. IsEvaluated t1 rows.width (F (solutions_of t1 rows)) x.0 x.1) (λ x. IsEvaluated t0 w (F A) x.0 x.1)
    (λ x e. subst (λ (v : ℕ). IsEvaluated t0 v (F A) x.0 x.1) h.wide (then_one t0 t1 x.1 w rows.width F keeps A rows x.0 h e)) k

after_two : {E : Type 0} (t0 t1 : List Term) (w : ℕ) (r : Result (RowList × List Term) E) (F : List (Solution Term) → List (Solution Term) → List (Solution Term)) → KeepsBagsOfTwo F → (A B : List (Solution Term)) (left right : RowList)
    → AreEvaluated t0 w A B left right t1
    → IfOk r (λ x. IsEvaluated t1 left.width (F (solutions_of t1 left) (solutions_of t1 right)) x.0 x.1) → IfOk r (λ x. IsEvaluated t0 w (F A B) x.0 x.1)
after_two t0 t1 w r F keeps A B left right h k =
    IfOk-weaker r (λ x. IsEvaluated t1 left.width (F (solutions_of t1 left) (solutions_of t1 right)) x.0 x.1) (λ x. IsEvaluated t0 w (F A B) x.0 x.1)
    (λ x e. then_two t0 t1 x.1 w left.width F keeps A B left right x.0 h h.wide_left e) k

-- rows are evaluated as the solutions that they represent
itself : (terms : List Term) (rows : RowList) → AreKnown terms rows → IsEvaluated terms rows.width (solutions_of terms rows) rows terms
itself terms rows known = record { grown = grown_itself terms; wide = refl; known = known; bag = IsPermutation-refl (solutions_of terms rows) }

-- the right input is evaluated after the left one, whose rows are unchanged
pub after_right : {E : Type 0} (t0 t1 : List Term) (w : ℕ) (r : Result (RowList × List Term) E) (F : List (Solution Term) → List (Solution Term) → List (Solution Term)) → KeepsBagsOfTwo F → (B : List (Solution Term)) (left right : RowList)
    → left.width ≡ w → AreKnown t0 left → IsEvaluated t0 w B right t1
    → IfOk r (λ x. IsEvaluated t1 left.width (F (solutions_of t1 left) (solutions_of t1 right)) x.0 x.1) → IfOk r (λ x. IsEvaluated t0 left.width (F (solutions_of t0 left) B) x.0 x.1)
after_right t0 t1 w r F keeps B left right wide known h k =
    after_two t0 t1 left.width r F keeps (solutions_of t0 left) B left right
    (both t0 t0 t1 left.width (solutions_of t0 left) B left right (itself t0 left known) (subst (λ (v : ℕ). IsEvaluated t0 v B right t1) (sym wide) h)) k

-- the left input is evaluated before the right one
pub after_left : {E : Type 0} (t0 t1 : List Term) (w : ℕ) (r : Result (RowList × List Term) E) (F : List (Solution Term) → List (Solution Term) → List (Solution Term)) → KeepsBagsOfTwo F → (A B B' : List (Solution Term)) → B' ≡ B → (left : RowList)
    → IsEvaluated t0 w A left t1
    → IfOk r (λ x. IsEvaluated t1 left.width (F (solutions_of t1 left) B') x.0 x.1) → IfOk r (λ x. IsEvaluated t0 w (F A B) x.0 x.1)
after_left t0 t1 w r F keeps A B B' is left h k =
    after_one t0 t1 w r (λ X. F X B) (λ X Y p. keeps X Y B B p (IsPermutation-refl B)) A left h
    (subst (λ (Z : List (Solution Term)). IfOk r (λ x. IsEvaluated t1 left.width (F (solutions_of t1 left) Z) x.0 x.1)) is k)

-- ---- variables below the width

pub all_below : (w : ℕ) (vs : List ℕ) → list_all (λ v. nat_lt v w) vs ≡ true → All (λ v. v < w) vs
all_below w vs e = λ k d low. (Decides-ltb (get_or vs k d) w).0 (AllPass-from_list_all (λ v. nat_lt v w) vs e k d low)

-- ---- equal multisets give equal multisets, operator by operator

pub join_keeps : KeepsBagsOfTwo (join term_eq)
join_keeps = join-IsSameBag term_eq term_decides

pub left_join_keeps : (test : Solution Term → Bool) → KeepsBagsOfTwo (left_join term_eq test)
left_join_keeps test = left_join-IsSameBag term_eq term_decides test

pub minus_keeps : KeepsBagsOfTwo (minus term_eq)
minus_keeps = minus-IsSameBag term_eq term_decides

pub union_keeps : KeepsBagsOfTwo (λ A B. A ++ B)
union_keeps = union-IsSameBag term_eq term_decides

pub filter_keeps : (test : Solution Term → Bool) → KeepsBags (filter test)
filter_keeps test = filter-IsSameBag term_eq term_decides test

pub extend_keeps : (v : ℕ) (value : Solution Term → Option Term) → KeepsBags (extend v value)
extend_keeps v value = extend-IsSameBag v value

pub project_keeps : (vs : List ℕ) → KeepsBags (project vs)
project_keeps vs = project-IsSameBag vs

pub distinct_keeps : KeepsBags (distinct term_eq)
distinct_keeps = distinct-IsSameBag term_eq term_decides
