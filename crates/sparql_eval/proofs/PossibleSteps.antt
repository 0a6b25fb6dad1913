-- Trees that are joined with rows: only the solutions that are compatible with one of the rows are
-- needed, and of GRAPH with a variable only the graphs that the rows name.
use Rattle.std.proofs.Common.{◌≡◌, ◌⊎◌, ⊎_elim, ℕ, zero, suc, ◌+◌, ◌<◌, Bool, true, false, cond, ◌&&◌, ◌||◌, List, [], ◌∷◌, ◌++◌, length, map, filter, flat_map, get_or, slice_get, take, nat_eq, Contains, Option, None, Some, is_some, option_map, Result, IfOk, refl, sym, ap, ◌∙◌, subst, arith}
use Rattle.std.specs.Cmp.{both_ways}
use Rattle.std.specs.List.{AllByRecursion, IsDistinct, dedup, list_any}
use Rattle.std.specs.Option.{option_eq}
use Rattle.std.proofs.lemmas.Bool.{and_parts, false≢true}
use Rattle.std.proofs.lemmas.Bool.Decides.{Decides-eqb}
use Rattle.std.proofs.lemmas.List.Folds.{list_any-append}
use Rattle.std.proofs.lemmas.List.Kept.{Contains-dedup_nat, Contains-from_dedup}
use Rattle.std.proofs.lemmas.List.Sorted.{IsPermutation-trans, IsPermutation-refl}
use Rattle.std.proofs.lemmas.Result.{IfOk-weaker}
use Rattle.rdf_core.specs.declared.term.Term.{Term}
use Rattle.rdf_core.proofs.TermLaws.{term_eq, term_decides}
use Rattle.algebra_model.specs.Algebra.{each_graph}
use Rattle.algebra_model.specs.Bag.{IsSameBag}
use Rattle.algebra_model.specs.Eval.{eval, named}
use Rattle.algebra_model.specs.Expression.{holds}
use Rattle.algebra_model.specs.Laws.{KeepsBagsOfTwo}
use Rattle.algebra_model.specs.Operators.{join, left_join, minus}
use Rattle.algebra_model.specs.Renaming.{Each, read_row}
use Rattle.algebra_model.specs.Solution.{Solution, is_compatible, merge}
use Rattle.algebra_model.proofs.BagLaws.{same_bag}
use Rattle.algebra_model.proofs.CongruenceLaws.{filter-IsSameBag}
use Rattle.dict_core.specs.Dict.{AreDistinct, term_at}
use Rattle.dict_core.specs.NumQuad.{AreBelow, quads_at}
use Rattle.dict_core.specs.declared.num_quad.NumQuad.{NumQuad}
use Rattle.row_core.specs.RowList.{RowList}
use Rattle.row_core.proofs.TurnLaws.{take_more_get}
use Rattle.expression_values.specs.ExpressionOf.{expression_of}
use Rattle.sparql_algebra.specs.AlgebraOf.{algebra_of}
use Rattle.sparql_algebra.specs.declared.operator.Operator.{Operator}
use Rattle.sparql_eval.specs.Evaluated.{AreKnown, IsEvaluated, solutions_of}
use Rattle.sparql_eval.specs.Fitting.{IsEvaluatedWhere, fits}
use Rattle.sparql_eval.specs.Pairings.{paired}
use Rattle.sparql_eval.specs.Possible.{AreNumbersAt, ArePossible, ArePossibleIn, bind_all, is_named, may_join, meets_some}
use Rattle.sparql_eval.specs.TreeSolutions.{AreGraphs, graph_solutions, solutions_in}
use Rattle.sparql_eval.specs.declared.equalities.Equality.{Equality}
use Rattle.sparql_eval.specs.declared.two_inputs.Pairing.{Pairing}
use Rattle.sparql_eval.specs.declared.two_inputs.Pairing.TheVariants.{Join, LeftJoin, Minus}
use Rattle.sparql_eval.proofs.ComputedSteps.{all_graphs}
use Rattle.sparql_eval.proofs.EvaluateSteps.{join_keeps, left_join_keeps, minus_keeps}
use Rattle.sparql_eval.proofs.FittingSteps.{filter-mapped, fits_left, fits_right, joined-where, where_any_ok}
use Rattle.sparql_eval.proofs.GraphSteps.{graph_below}
use Rattle.sparql_eval.proofs.NamedSteps.{all_named}
use Rattle.sparql_eval.proofs.PossibleLaws.{covered, join_tested, left_join_tested, meets_left, meets_right, minus_tested, named_suffice}
use Rattle.sparql_eval.proofs.ReadingLaws.{Known, equal_by_number, grown_twice, rows_kept}

-- ---- two tests

filter-both : {X : Type 0} (p q : X → Bool) (xs : List X) → filter (λ x. p x && q x) xs ≡ filter p (filter q xs)
filter-both p q [] = refl
filter-both {X} p q (x ∷ xs) = by (p x) (q x) refl (filter-both p q xs)
  where
    by : (a b : Bool) → p x ≡ a → filter (λ x. p x && q x) xs ≡ filter p (filter q xs)
        → cond (a && b) (x ∷ filter (λ x. p x && q x) xs) (filter (λ x. p x && q x) xs) ≡ filter p (cond b (x ∷ filter q xs) (filter q xs))
    by true true e i = ap (λ l. x ∷ l) i ∙ sym (ap (λ (k : Bool). cond k (x ∷ filter p (filter q xs)) (filter p (filter q xs))) e)
    by true false e i = i
    by false true e i = i ∙ sym (ap (λ (k : Bool). cond k (x ∷ filter p (filter q xs)) (filter p (filter q xs))) e)
    by false false e i = i

swapped : (a b : Bool) → (a && b) ≡ (b && a)
swapped true true = refl
swapped true false = refl
swapped false true = refl
swapped false false = refl

filter-turned : {X : Type 0} (p q : X → Bool) (xs : List X) → filter (λ x. p x && q x) xs ≡ filter q (filter p xs)
filter-turned p q xs = (λ i. filter (λ x. swapped (p x) (q x) i) xs) ∙ filter-both q p xs

module _ (terms : List Term) (w : ℕ) (p q : Solution Term → Bool) (A : List (Solution Term)) (made : RowList) (now : List Term) where
  -- what passes one test passes both, if it passes the other one
  pub where_first : IsEvaluatedWhere terms w p A made now → IsEvaluatedWhere terms w (λ ρ. p ρ && q ρ) A made now
  where_first h = record {
    grown = h.grown;
    wide = h.wide;
    known = h.known;
    bag = subst (λ l. IsSameBag l (filter (λ ρ. p ρ && q ρ) A)) (sym (filter-turned p q (solutions_of now made)))
        (subst (λ l. IsSameBag (filter q (filter p (solutions_of now made))) l) (sym (filter-turned p q A))
        (filter-IsSameBag term_eq term_decides q (filter p (solutions_of now made)) (filter p A) h.bag));
  }

  pub where_second : IsEvaluatedWhere terms w q A made now → IsEvaluatedWhere terms w (λ ρ. p ρ && q ρ) A made now
  where_second h = record {
    grown = h.grown;
    wide = h.wide;
    known = h.known;
    bag = subst (λ l. IsSameBag l (filter (λ ρ. p ρ && q ρ) A)) (sym (filter-both p q (solutions_of now made)))
        (subst (λ l. IsSameBag (filter p (filter q (solutions_of now made))) l) (sym (filter-both p q A))
        (filter-IsSameBag term_eq term_decides p (filter q (solutions_of now made)) (filter q A) h.bag));
  }

module _ {E : Type 0} (terms : List Term) (w : ℕ) (r : Result (RowList × List Term) E) (pairs : List Equality) (L A whole : List (Solution Term)) (is : whole ≡ A) where
  pub fits_may_join : IfOk r (λ x. IsEvaluatedWhere terms w (fits pairs) A x.0 x.1) → IfOk r (λ x. IsEvaluatedWhere terms w (may_join pairs L) whole x.0 x.1)
  fits_may_join k =
      IfOk-weaker r (λ x. IsEvaluatedWhere terms w (fits pairs) A x.0 x.1) (λ x. IsEvaluatedWhere terms w (may_join pairs L) whole x.0 x.1)
      (λ x h. subst (λ (W : List (Solution Term)). IsEvaluatedWhere terms w (may_join pairs L) W x.0 x.1) (sym is) (where_first terms w (fits pairs) (meets_some term_eq L) A x.0 x.1 h)) k

  pub meets_may_join : IfOk r (λ x. IsEvaluatedWhere terms w (meets_some term_eq L) A x.0 x.1) → IfOk r (λ x. IsEvaluatedWhere terms w (may_join pairs L) whole x.0 x.1)
  meets_may_join k =
      IfOk-weaker r (λ x. IsEvaluatedWhere terms w (meets_some term_eq L) A x.0 x.1) (λ x. IsEvaluatedWhere terms w (may_join pairs L) whole x.0 x.1)
      (λ x h. subst (λ (W : List (Solution Term)). IsEvaluatedWhere terms w (may_join pairs L) W x.0 x.1) (sym is) (where_second terms w (fits pairs) (meets_some term_eq L) A x.0 x.1 h)) k

  pub may_join_whole : IfOk r (λ x. IsEvaluatedWhere terms w (may_join pairs L) A x.0 x.1) → IfOk r (λ x. IsEvaluatedWhere terms w (may_join pairs L) whole x.0 x.1)
  may_join_whole k = subst (λ (W : List (Solution Term)). IfOk r (λ x. IsEvaluatedWhere terms w (may_join pairs L) W x.0 x.1)) (sym is) k

-- ---- a merge that may be joined is of solutions that may be

module _ (pairs : List Equality) (L : List (Solution Term)) where
  both_parts : (a b : Bool) → (a && b) ≡ true → (a ≡ true) × (b ≡ true)
  both_parts true b h = (refl, h)
  both_parts false b h = absurd (false≢true h)

  pub may_join_left : (μ ν : Solution Term) → may_join pairs L (merge μ ν) ≡ true → may_join pairs L μ ≡ true
  may_join_left μ ν h =
      let p = both_parts (fits pairs (merge μ ν)) (meets_some term_eq L (merge μ ν)) h in
      λ i. fits_left pairs μ ν p.0 i && meets_left term_eq term_decides L μ ν p.1 i

  pub may_join_right : (μ ν : Solution Term) → is_compatible term_eq μ ν ≡ true → may_join pairs L (merge μ ν) ≡ true → may_join pairs L ν ≡ true
  may_join_right μ ν c h =
      let p = both_parts (fits pairs (merge μ ν)) (meets_some term_eq L (merge μ ν)) h in
      λ i. fits_right pairs μ ν c p.0 i && meets_right term_eq term_decides L μ ν c p.1 i

-- ---- one operator after another, while the dictionary grows

-- the right input of an operator that needs only what is compatible with a left row
pub after_possible : {E : Type 0} (t0 t1 : List Term) (w : ℕ) (r : Result (RowList × List Term) E) (F : List (Solution Term) → List (Solution Term) → List (Solution Term)) → KeepsBagsOfTwo F
    → ((L B : List (Solution Term)) → F L (filter (meets_some term_eq L) B) ≡ F L B)
    → (B : List (Solution Term)) (left right : RowList) → AreKnown t0 left → IsEvaluatedWhere t0 w (may_join [] (solutions_of t0 left)) B right t1
    → IfOk r (λ x. IsEvaluated t1 left.width (F (solutions_of t1 left) (solutions_of t1 right)) x.0 x.1) → IfOk r (λ x. IsEvaluated t0 left.width (F (solutions_of t0 left) B) x.0 x.1)
after_possible t0 t1 w r F keeps drops B left right known h k =
    let L = solutions_of t0 left in
    let M = solutions_of t1 left in
    let R = solutions_of t1 right in
    let m : Solution Term → Bool = meets_some term_eq L in
    let same : M ≡ L = (rows_kept t0 t1 h.grown left.rows known).1 in
    let met : IsSameBag (F L R) (F L B) =
    subst (λ l. IsSameBag l (F L B)) (drops L R) (subst (λ l. IsSameBag (F L (filter m R)) l) (drops L B) (keeps L L (filter m R) (filter m B) (IsPermutation-refl L) h.bag)) in
    IfOk-weaker r (λ x. IsEvaluated t1 left.width (F M R) x.0 x.1) (λ x. IsEvaluated t0 left.width (F L B) x.0 x.1)
    (λ x e. record {
      grown = grown_twice t0 t1 x.1 h.grown e.grown;
      wide = e.wide;
      known = e.known;
      bag = IsPermutation-trans (solutions_of x.1 x.0) (F M R) (F L B) e.bag (subst (λ (N : List (Solution Term)). IsSameBag (F N R) (F L B)) (sym same) met);
    }) k

join_drops : (L B : List (Solution Term)) → join term_eq L (filter (meets_some term_eq L) B) ≡ join term_eq L B
join_drops L B = join_tested term_eq (meets_some term_eq L) L B (covered term_eq L)

left_join_drops : (keeps : Solution Term → Bool) (L B : List (Solution Term)) → left_join term_eq keeps L (filter (meets_some term_eq L) B) ≡ left_join term_eq keeps L B
left_join_drops keeps L B = left_join_tested term_eq (meets_some term_eq L) keeps L B (covered term_eq L)

minus_drops : (L B : List (Solution Term)) → minus term_eq L (filter (meets_some term_eq L) B) ≡ minus term_eq L B
minus_drops L B = minus_tested term_eq (meets_some term_eq L) L B (covered term_eq L)

pub paired_keeps : (p : Pairing) → KeepsBagsOfTwo (paired p)
paired_keeps Join = join_keeps
paired_keeps (LeftJoin condition) = left_join_keeps (holds (expression_of condition.now))
paired_keeps Minus = minus_keeps

pub paired_drops : (p : Pairing) (L B : List (Solution Term)) → paired p L (filter (meets_some term_eq L) B) ≡ paired p L B
paired_drops Join L B = join_drops L B
paired_drops (LeftJoin condition) L B = left_join_drops (holds (expression_of condition.now)) L B
paired_drops Minus L B = minus_drops L B

module _ (pairs : List Equality) where
  -- the right input of a join, evaluated after the left one, whose rows are unchanged
  pub where_possible : {E : Type 0} (t0 t1 : List Term) (w : ℕ) (r : Result (RowList × List Term) E) (B : List (Solution Term)) (left right : RowList) → AreKnown t0 left
      → IsEvaluatedWhere t0 w (may_join pairs (solutions_of t0 left)) B right t1
      → IfOk r (λ x. IsEvaluatedWhere t1 left.width (fits pairs) (join term_eq (solutions_of t1 left) (solutions_of t1 right)) x.0 x.1) → IfOk r (λ x. IsEvaluatedWhere t0 left.width (fits pairs) (join term_eq (solutions_of t0 left) B) x.0 x.1)
  where_possible t0 t1 w r B left right known h k =
      let p : Solution Term → Bool = fits pairs in
      let L = solutions_of t0 left in
      let M = solutions_of t1 left in
      let R = solutions_of t1 right in
      let m : Solution Term → Bool = meets_some term_eq L in
      let same : M ≡ L = (rows_kept t0 t1 h.grown left.rows known).1 in
      let tested : IsSameBag (filter p (filter m R)) (filter p (filter m B)) =
      subst (λ l. IsSameBag l (filter p (filter m B))) (filter-both p m R) (subst (λ l. IsSameBag (filter (may_join pairs L) R) l) (filter-both p m B) h.bag) in
      let met : IsSameBag (filter p (join term_eq L R)) (filter p (join term_eq L B)) =
      subst (λ l. IsSameBag (filter p l) (filter p (join term_eq L B))) (join_drops L R)
      (subst (λ l. IsSameBag (filter p (join term_eq L (filter m R))) (filter p l)) (join_drops L B)
      (joined-where p (fits_left pairs) (fits_right pairs) L L (filter m B) (filter m R) (IsPermutation-refl (filter p L)) tested)) in
      IfOk-weaker r (λ x. IsEvaluatedWhere t1 left.width p (join term_eq M R) x.0 x.1) (λ x. IsEvaluatedWhere t0 left.width p (join term_eq L B) x.0 x.1)
      (λ x e. record {
        grown = grown_twice t0 t1 x.1 h.grown e.grown;
        wide = e.wide;
        known = e.known;
        bag = IsPermutation-trans (filter p (solutions_of x.1 x.0)) (filter p (join term_eq M R)) (filter p (join term_eq L B)) e.bag
            (subst (λ (N : List (Solution Term)). IsSameBag (filter p (join term_eq N R)) (filter p (join term_eq L B))) (sym same) met);
      }) k

  -- a join that is then joined with other rows: its right input after the left one
  next_right : {E : Type 0} (t0 t1 : List Term) (w : ℕ) (r : Result (RowList × List Term) E) (O B : List (Solution Term)) (left right : RowList) → AreKnown t0 left
      → IsEvaluatedWhere t0 w (may_join pairs O) B right t1
      → IfOk r (λ x. IsEvaluatedWhere t1 left.width (fits pairs) (join term_eq (solutions_of t1 left) (solutions_of t1 right)) x.0 x.1)
      → IfOk r (λ x. IsEvaluatedWhere t0 left.width (may_join pairs O) (join term_eq (solutions_of t0 left) B) x.0 x.1)
  next_right t0 t1 w r O B left right known h k =
      let p : Solution Term → Bool = fits pairs in
      let q : Solution Term → Bool = may_join pairs O in
      let L = solutions_of t0 left in
      let M = solutions_of t1 left in
      let R = solutions_of t1 right in
      let same : M ≡ L = (rows_kept t0 t1 h.grown left.rows known).1 in
      let met : IsSameBag (filter q (join term_eq L R)) (filter q (join term_eq L B)) = joined-where q (may_join_left pairs O) (may_join_right pairs O) L L B R (IsPermutation-refl (filter q L)) h.bag in
      IfOk-weaker r (λ x. IsEvaluatedWhere t1 left.width p (join term_eq M R) x.0 x.1) (λ x. IsEvaluatedWhere t0 left.width q (join term_eq L B) x.0 x.1)
      (λ x e. let f = where_first t1 left.width p (meets_some term_eq O) (join term_eq M R) x.0 x.1 e in record {
        grown = grown_twice t0 t1 x.1 h.grown e.grown;
        wide = e.wide;
        known = e.known;
        bag = IsPermutation-trans (filter q (solutions_of x.1 x.0)) (filter q (join term_eq M R)) (filter q (join term_eq L B)) f.bag
            (subst (λ (N : List (Solution Term)). IsSameBag (filter q (join term_eq N R)) (filter q (join term_eq L B))) (sym same) met);
      }) k

  -- its left input before the right one
  pub next_left : {E : Type 0} (t0 t1 : List Term) (w : ℕ) (r : Result (RowList × List Term) E) (O A B B' whole : List (Solution Term)) (left : RowList) → B' ≡ B → whole ≡ join term_eq A B
      → IsEvaluatedWhere t0 w (may_join pairs O) A left t1
      → IfOk r (λ x. IsEvaluatedWhere t1 left.width (may_join pairs O) (join term_eq (solutions_of t1 left) B') x.0 x.1) → IfOk r (λ x. IsEvaluatedWhere t0 w (may_join pairs O) whole x.0 x.1)
  next_left t0 t1 w r O A B B' whole left is of h k =
      let q : Solution Term → Bool = may_join pairs O in
      let S = solutions_of t1 left in
      IfOk-weaker r (λ x. IsEvaluatedWhere t1 left.width q (join term_eq S B') x.0 x.1) (λ x. IsEvaluatedWhere t0 w q whole x.0 x.1)
      (λ x e. record {
        grown = grown_twice t0 t1 x.1 h.grown e.grown;
        wide = e.wide ∙ h.wide;
        known = e.known;
        bag = IsPermutation-trans (filter q (solutions_of x.1 x.0)) (filter q (join term_eq S B')) (filter q whole) e.bag
            (subst (λ (W : List (Solution Term)). IsSameBag (filter q (join term_eq S B')) (filter q W)) (sym of)
            (joined-where q (may_join_left pairs O) (may_join_right pairs O) A S B B' h.bag (same_bag (filter q B') (filter q B) (ap (filter q) is))));
      }) k

-- the rows with which the right input of such a join is joined: those of the left input, or the other ones
module _ (t : List Term) (left others next : RowList) (o : (next ≡ left) ⊎ (next ≡ others)) (known : AreKnown t left) where
  pub next_known : AreKnown t others → AreKnown t next
  next_known k = ⊎_elim (λ (e : next ≡ left). subst (AreKnown t) (sym e) known) (λ (e : next ≡ others). subst (AreKnown t) (sym e) k) o

  pub next_either : {E : Type 0} (t1 : List Term) (w : ℕ) (r : Result (RowList × List Term) E) (B : List (Solution Term)) (right : RowList)
      → IsEvaluatedWhere t w (may_join [] (solutions_of t next)) B right t1
      → IfOk r (λ x. IsEvaluated t1 left.width (join term_eq (solutions_of t1 left) (solutions_of t1 right)) x.0 x.1)
      → IfOk r (λ x. IsEvaluatedWhere t left.width (may_join [] (solutions_of t others)) (join term_eq (solutions_of t left) B) x.0 x.1)
  next_either t1 w r B right h k =
      let O = solutions_of t others in
      let J = join term_eq (solutions_of t left) B in
      ⊎_elim
      (λ (e : next ≡ left). fits_may_join t left.width r [] O J J refl
      (where_any_ok [] t left.width r J (after_possible t t1 w r (join term_eq) join_keeps join_drops B left right known (subst (λ (n : RowList). IsEvaluatedWhere t w (may_join [] (solutions_of t n)) B right t1) e h) k)))
      (λ (e : next ≡ others). next_right [] t t1 w r O B left right known (subst (λ (n : RowList). IsEvaluatedWhere t w (may_join [] (solutions_of t n)) B right t1) e h)
      (where_any_ok [] t1 left.width r (join term_eq (solutions_of t1 left) (solutions_of t1 right)) k))
      o

-- ---- the graphs that rows name

contained : {X : Type 0} (p : X → Bool) (xs : List X) (k : ℕ) (x : X) → slice_get (filter p xs) k ≡ Some x → (j : ℕ) × (slice_get xs j ≡ Some x)
contained p [] k x e = (k, e)
contained {X} p (y ∷ xs) k x e = by (p y) k e (λ j. contained p xs j x)
  where
    by : (b : Bool) (k : ℕ) → slice_get (cond b (y ∷ filter p xs) (filter p xs)) k ≡ Some x
        → ((j : ℕ) → slice_get (filter p xs) j ≡ Some x → (l : ℕ) × (slice_get xs l ≡ Some x)) → (j : ℕ) × (slice_get (y ∷ xs) j ≡ Some x)
    by true zero e i = (0, e)
    by true (suc k) e i = let r = i k e in (suc r.0, r.1)
    by false k e i = let r = i k e in (suc r.0, r.1)

module _ {X Y : Type 0} (same : Y → Y → Bool) (f : X → Y) (p : X → Bool) where
  all_few : (P : Y → Type 0) (xs : List X) → AllByRecursion P (map f xs) → AllByRecursion P (map f (filter p xs))
  all_few P [] h = tt
  all_few P (x ∷ xs) h = by (p x) (all_few P xs h.1)
    where
      by : (b : Bool) → AllByRecursion P (map f (filter p xs)) → AllByRecursion P (map f (cond b (x ∷ filter p xs) (filter p xs)))
      by true a = (h.0, a)
      by false a = a

  distinct_few : (xs : List X) → IsDistinct same (map f xs) → IsDistinct same (map f (filter p xs))
  unfolding IsDistinct
  distinct_few [] h = tt
  distinct_few (x ∷ xs) h = by (p x) (all_few (λ y. same (f x) y ≡ false) xs h.0) (distinct_few xs h.1)
    where
      by : (b : Bool) → AllByRecursion (λ y. same (f x) y ≡ false) (map f (filter p xs)) → IsDistinct same (map f (filter p xs)) → IsDistinct same (map f (cond b (x ∷ filter p xs) (filter p xs)))
      by true a i = (a, i)
      by false a i = i

get_read_row : (f : ℕ → Term) (μ : Solution ℕ) (v : ℕ) → get_or (read_row f μ) v None ≡ option_map f (get_or μ v None)
get_read_row f [] v = refl
get_read_row f (x ∷ μ) zero = refl
get_read_row f (x ∷ μ) (suc v) = get_read_row f μ v

some_read : (f : ℕ → Term) (x : Option ℕ) → is_some (option_map f x) ≡ is_some x
some_read f None = refl
some_read f (Some n) = refl

module _ (terms : List Term) (once : AreDistinct terms) (v : ℕ) where
  abbrev T : ℕ → Term
  T n = term_at terms n

  bind_read : (A : List (Solution ℕ)) → bind_all (map (read_row T) A) v ≡ bind_all A v
  bind_read [] = refl
  bind_read (μ ∷ A) = λ i. (ap is_some (get_read_row T μ v) ∙ some_read T (get_or μ v None)) i && bind_read A i

  known_at : (μ : Solution ℕ) (k n : ℕ) → Known terms μ → get_or μ k None ≡ Some n → n < length terms
  known_at [] k n h e = cc
  known_at (None ∷ μ) zero n h e = cc
  known_at (Some x ∷ μ) zero n h e = let p : x ≡ n = cc in subst (λ m. m < length terms) p h.0
  known_at (None ∷ μ) (suc k) n h e = known_at μ k n h e
  known_at (Some x ∷ μ) (suc k) n h e = known_at μ k n h.1 e

  named_read : (g : ℕ) → g < length terms → (A : List (Solution ℕ)) → Each (Known terms) A → is_named term_eq (map (read_row T) A) v (T g) ≡ is_named nat_eq A v g
  named_read g low [] h = refl
  named_read g low (μ ∷ A) h = λ i. (ap (λ (x : Option Term). option_eq term_eq x (Some (T g))) (get_read_row T μ v) ∙ one (get_or μ v None) refl) i || named_read g low A h.1 i
    where
      one : (x : Option ℕ) → get_or μ v None ≡ x → option_eq term_eq (option_map T x) (Some (T g)) ≡ option_eq nat_eq x (Some g)
      one None e = refl
      one (Some n) e = equal_by_number terms once n g (known_at μ v n h.0 e) low

  filter_named : (A : List (Solution ℕ)) → Each (Known terms) A → (gs : List ℕ) → Each (λ g. g < length terms) gs
      → filter (λ g. is_named term_eq (map (read_row T) A) v (T g)) gs ≡ filter (is_named nat_eq A v) gs
  filter_named A h [] low = refl
  filter_named A h (g ∷ gs) low = λ i. cond (named_read g low.0 A h i) (g ∷ filter_named A h gs low.1 i) (filter_named A h gs low.1 i)

-- the graphs that the rows name are graphs
pub possible_are : (terms : List Term) → AreDistinct terms → (index : List NumQuad) → AreBelow (length terms) index → (rows : List (Solution ℕ)) (v : ℕ) (found : List ℕ) → ArePossibleIn index rows v found → AreGraphs terms index found
possible_are terms once index below rows v found h =
    let p = is_named nat_eq rows v in
    let all = all_graphs terms once index below h.0 h.1.0 in
    subst (AreGraphs terms index) (sym h.1.1.1) (distinct_few term_eq (term_at terms) p h.0 all.0, λ k n at. let r = contained p h.0 k n at in all.1 r.0 n r.1)

-- they have the solutions that are compatible with one of the rows
module _ {E : Type 0} (terms : List Term) (once : AreDistinct terms) (index : List NumQuad) (below : AreBelow (length terms) index) (w v : ℕ) (low : v < w) (tree : Operator) (others : RowList) (known : AreKnown terms others) where
  pub possible_suffice : (r : Result (RowList × List Term) E) (found : List ℕ) → ArePossibleIn index others.rows v found
      → IfOk r (λ x. IsEvaluated terms w (solutions_in terms index w v found (algebra_of tree)) x.0 x.1)
      → IfOk r (λ x. IsEvaluatedWhere terms w (meets_some term_eq (solutions_of terms others)) (graph_solutions terms index w (each_graph v) tree) x.0 x.1)
  possible_suffice r found h k =
      let L = solutions_of terms others in
      let m : Solution Term → Bool = meets_some term_eq L in
      let graphs = h.0 in
      let P : Term → List (Solution Term) = λ i. eval w (quads_at terms index) (Some i) (algebra_of tree) in
      let F : Term → List (Solution Term) = λ i. join term_eq (P i) (named w v i) in
      let G = graph_solutions terms index w (each_graph v) tree in
      let all : bind_all L v ≡ true = bind_read terms once v others.rows ∙ h.1.1.0 in
      let names : map (term_at terms) found ≡ filter (λ i. is_named term_eq L v i) (map (term_at terms) graphs) =
      ap (map (term_at terms)) (h.1.1.1 ∙ sym (filter_named terms once v others.rows known graphs (graph_below terms once index below graphs h.1.0)))
      ∙ sym (filter-mapped (λ i. is_named term_eq L v i) (term_at terms) graphs) in
      let few : filter m (flat_map F (map (term_at terms) found)) ≡ filter m (flat_map F (map (term_at terms) graphs)) =
      ap (λ (l : List Term). filter m (flat_map F l)) names ∙ named_suffice term_eq term_decides L w v low all P (λ i. i) (map (term_at terms) graphs) in
      let same : IsSameBag (filter m (flat_map F (map (term_at terms) found))) (filter m G) =
      subst (λ l. IsSameBag l (filter m G)) (sym few) (filter-IsSameBag term_eq term_decides m (flat_map F (map (term_at terms) graphs)) G (all_named terms once index below graphs h.1.0 F)) in
      IfOk-weaker r (λ x. IsEvaluated terms w (solutions_in terms index w v found (algebra_of tree)) x.0 x.1) (λ x. IsEvaluatedWhere terms w m G x.0 x.1)
      (λ x e. record {
        grown = e.grown;
        wide = e.wide;
        known = e.known;
        bag = IsPermutation-trans (filter m (solutions_of x.1 x.0)) (filter m (flat_map F (map (term_at terms) found))) (filter m G)
            (filter-IsSameBag term_eq term_decides m (solutions_of x.1 x.0) (flat_map F (map (term_at terms) found)) e.bag) same;
      }) k

-- ---- the numbers that rows bind a variable to

module _ (rows : List (Solution ℕ)) (v : ℕ) where
  -- no rows
  pub numbers_none : AreNumbersAt [] v []
  numbers_none = (refl, λ n. refl)

  all_more : (A : List (Solution ℕ)) (μ : Solution ℕ) (n : ℕ) → get_or μ v None ≡ Some n → bind_all A v ≡ true → bind_all (A ++ μ ∷ []) v ≡ true
  all_more [] μ n e h = ap (λ (x : Option ℕ). is_some x && true) e
  all_more (κ ∷ A) μ n e h =
      let p = and_parts (is_some (get_or κ v None)) (bind_all A v) h in
      λ i. p.0 i && all_more A μ n e p.1 i

  -- one more row
  pub numbers_more : (i n : ℕ) (μ : Solution ℕ) (numbers : List ℕ) → slice_get rows i ≡ Some μ → get_or μ v None ≡ Some n → AreNumbersAt (take i rows) v numbers → AreNumbersAt (take (i + 1) rows) v (numbers ++ n ∷ [])
  numbers_more i n μ numbers at e h =
      subst (λ (l : List (Solution ℕ)). AreNumbersAt l v (numbers ++ n ∷ [])) (sym (take_more_get rows i μ at)) (
        all_more (take i rows) μ n e h.0,
        λ m. list_any-append (λ x. nat_eq x m) numbers (n ∷ []) ∙ (λ j. h.1 m j || (nat_eq n m || false))
            ∙ sym (list_any-append (λ κ. option_eq nat_eq (get_or κ v None) (Some m)) (take i rows) (μ ∷ []) ∙ ap (λ (x : Option ℕ). is_named nat_eq (take i rows) v m || (option_eq nat_eq x (Some m) || false)) e),
      )

-- the same numbers in another list
pub numbers_same : (rows : List (Solution ℕ)) (v : ℕ) (numbers sorted : List ℕ) → ((n : ℕ) → list_any (λ x. nat_eq x n) sorted ≡ list_any (λ x. nat_eq x n) numbers) → AreNumbersAt rows v numbers
    → (graphs found : List ℕ) → found ≡ filter (λ g. list_any (λ x. nat_eq x g) sorted) graphs → ArePossible rows v graphs found
numbers_same rows v numbers sorted same h graphs found is = (h.0, is ∙ (λ i. filter (λ g. (same g ∙ h.1 g) i) graphs))

contains_of : (xs : List ℕ) (n : ℕ) → list_any (λ x. nat_eq x n) xs ≡ true → Contains xs n
contains_of [] n h = absurd (false≢true h)
contains_of (x ∷ xs) n h = by (nat_eq x n) refl h (contains_of xs n)
  where
    by : (b : Bool) → nat_eq x n ≡ b → (b || list_any (λ y. nat_eq y n) xs) ≡ true → (list_any (λ y. nat_eq y n) xs ≡ true → Contains xs n) → Contains (x ∷ xs) n
    by true e h i = (0, omega arith, (Decides-eqb x n).0 e)
    by false e h i = let r = i h in (suc r.0, omega (arith, r.1), r.2)

any_of : (xs : List ℕ) (n : ℕ) → Contains xs n → list_any (λ x. nat_eq x n) xs ≡ true
any_of xs n c = at xs c.0 c.1 c.2
  where
    either_true : (b : Bool) → (b || true) ≡ true
    either_true true = refl
    either_true false = refl

    at : (xs : List ℕ) (k : ℕ) → k < length xs → get_or xs k n ≡ n → list_any (λ x. nat_eq x n) xs ≡ true
    at [] k low e = absurd (omega (arith, low))
    at (x ∷ xs) zero low e = ap (λ (b : Bool). b || list_any (λ y. nat_eq y n) xs) ((Decides-eqb x n).1 e)
    at (x ∷ xs) (suc k) low e = ap (λ (b : Bool). nat_eq x n || b) (at xs k (omega (arith, low)) e) ∙ either_true (nat_eq x n)

-- what a sort and a removal of repeats keep
pub any_deduped : (xs : List ℕ) (n : ℕ) → list_any (λ x. nat_eq x n) (dedup nat_eq xs) ≡ list_any (λ x. nat_eq x n) xs
any_deduped xs n = both_ways (list_any (λ x. nat_eq x n) (dedup nat_eq xs)) (list_any (λ x. nat_eq x n) xs)
    (λ h. any_of xs n (Contains-from_dedup nat_eq xs n (contains_of (dedup nat_eq xs) n h)))
    (λ h. any_of (dedup nat_eq xs) n (Contains-dedup_nat xs n (contains_of xs n h)))
