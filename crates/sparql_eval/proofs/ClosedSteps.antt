-- Trees whose solutions do not depend on the active graph, under GRAPH with a variable.
use Rattle.std.proofs.Common.{◌≡◌, ◌⊎◌, ℕ, suc, ◌<◌, ◌==◌, Bool, true, false, cond, List, [], ◌∷◌, ◌++◌, length, map, filter, set, replicate, flat_map, slice_get, Option, None, Some, Decides, Result, IfOk, inl, inr, ⊎_elim, refl, sym, ap, ◌∙◌, subst, arith, append_assoc, append-nil}
use Rattle.std.proofs.lemmas.Bool.{and_parts}
use Rattle.std.proofs.lemmas.Bool.Decides.{nat_tests}
use Rattle.std.proofs.lemmas.List.Sorted.{IsPermutation-refl, IsPermutation-trans, IsPermutation-append, IsPermutation-append_comm, IsPermutation-sym}
use Rattle.std.proofs.lemmas.Result.{IfOk-weaker}
use Rattle.rdf_core.specs.declared.term.Term.{Term}
use Rattle.rdf_core.specs.QuadParts.{QuadParts}
use Rattle.rdf_core.proofs.TermLaws.{term_eq, term_decides}
use Rattle.algebra_model.specs.Algebra.{Algebra, Pattern, Join, LeftJoin, Union, Minus, Graph, Filter, Extend, Project, Distinct, Table, each_graph}
use Rattle.algebra_model.specs.Bag.{IsSameBag}
use Rattle.algebra_model.specs.Closed.{is_closed}
use Rattle.algebra_model.specs.Eval.{eval, named}
use Rattle.algebra_model.specs.Expression.{val}
use Rattle.algebra_model.specs.Operators.{join, merges}
use Rattle.algebra_model.specs.Renaming.{Each}
use Rattle.algebra_model.specs.Solution.{Solution, is_compatible, merge}
use Rattle.algebra_model.proofs.BagLaws.{IsPermutation-flat_map_each, same_bag}
use Rattle.algebra_model.proofs.ClosedLaws.{closed-eval, join-outside, names-outside}
use Rattle.algebra_model.proofs.CongruenceLaws.{join-IsSameBag}
use Rattle.dict_core.specs.Dict.{IsGrown, term_at}
use Rattle.dict_core.specs.NumQuad.{AreBelow, quads_at}
use Rattle.dict_core.specs.declared.num_quad.NumQuad.{NumQuad}
use Rattle.row_core.specs.RowList.{RowList}
use Rattle.sparql_eval.specs.Computed.{IsComputed, IsValue, TakesOnly}
use Rattle.sparql_eval.specs.Evaluated.{IsEvaluated}
use Rattle.sparql_eval.specs.TreeSolutions.{AreGraphs, Needed, NeededIn, solutions_in}
use Rattle.sparql_eval.proofs.ComputedSteps.{needed_kept, takes_two}
use Rattle.sparql_eval.proofs.ReadingLaws.{Known, evaluated, read_by, set_known, set_read}
use Rattle.sparql_eval.proofs.TableSteps.{row_begins}
use Rattle.sparql_eval.proofs.TakingLaws.{takes_more}

-- ---- joins in either order

module _ {T : Type 0} (same : T → T → Bool) (decides : (x y : T) → Decides (same x y) (x ≡ y)) where
  join_with_none : (B : List (Solution T)) → join same B [] ≡ []
  join_with_none [] = refl
  join_with_none (ν ∷ B) = join_with_none B

  pub merges_first : (ν μ : Solution T) (A : List (Solution T)) → merges same ν (μ ∷ A) ≡ merges same ν (μ ∷ []) ++ merges same ν A
  merges_first ν μ A = by (is_compatible same ν μ)
    where
      by : (b : Bool) → map (merge ν) (cond b (μ ∷ filter (is_compatible same ν) A) (filter (is_compatible same ν) A)) ≡ map (merge ν) (cond b (μ ∷ []) []) ++ merges same ν A
      by true = refl
      by false = refl

  pub interchanged : (a b P Q R : List (Solution T)) → IsSameBag R (P ++ Q) → IsSameBag ((a ++ b) ++ R) ((a ++ P) ++ (b ++ Q))
  interchanged a b P Q R h =
      let first = IsPermutation-append (a ++ b) (a ++ b) R (P ++ Q) (IsPermutation-refl (a ++ b)) h in
      let turned : IsSameBag ((b ++ P) ++ Q) ((P ++ b) ++ Q) = IsPermutation-append (b ++ P) (P ++ b) Q Q (IsPermutation-append_comm b P) (IsPermutation-refl Q) in
      let moved : IsSameBag (b ++ (P ++ Q)) (P ++ (b ++ Q)) = subst (λ l. IsSameBag l (P ++ (b ++ Q))) (append_assoc b P Q) (subst (λ l. IsSameBag ((b ++ P) ++ Q) l) (append_assoc P b Q) turned) in
      let second : IsSameBag (a ++ (b ++ (P ++ Q))) (a ++ (P ++ (b ++ Q))) = IsPermutation-append a a (b ++ (P ++ Q)) (P ++ (b ++ Q)) (IsPermutation-refl a) moved in
      IsPermutation-trans ((a ++ b) ++ R) ((a ++ b) ++ (P ++ Q)) ((a ++ P) ++ (b ++ Q)) first
      (subst (λ l. IsSameBag l ((a ++ P) ++ (b ++ Q))) (sym (append_assoc a b (P ++ Q))) (subst (λ l. IsSameBag (a ++ (b ++ (P ++ Q))) l) (sym (append_assoc a P (b ++ Q))) second))

  join_first : (B : List (Solution T)) (μ : Solution T) (A : List (Solution T)) → IsSameBag (join same B (μ ∷ A)) (join same B (μ ∷ []) ++ join same B A)
  join_first [] μ A = IsPermutation-refl []
  join_first (ν ∷ B) μ A =
      subst (λ l. IsSameBag (l ++ join same B (μ ∷ A)) (join same (ν ∷ B) (μ ∷ []) ++ join same (ν ∷ B) A)) (sym (merges_first ν μ A))
      (interchanged (merges same ν (μ ∷ [])) (merges same ν A) (join same B (μ ∷ [])) (join same B A) (join same B (μ ∷ A)) (join_first B μ A))

  join_one : (B : List (Solution T)) (μ : Solution T) → merges same μ B ≡ join same B (μ ∷ [])
  join_one B μ = sym (append-nil (merges same μ B)) ∙ sym (names-outside same decides B (λ (u : Unit {0}). μ) (tt ∷ [])) ∙ append-nil (join same B (μ ∷ []))

  pub join_turned : (A B : List (Solution T)) → IsSameBag (join same A B) (join same B A)
  join_turned [] B = same_bag [] (join same B []) (sym (join_with_none B))
  join_turned (μ ∷ A) B =
      IsPermutation-trans (merges same μ B ++ join same A B) (join same B (μ ∷ []) ++ join same B A) (join same B (μ ∷ A))
      (IsPermutation-append (merges same μ B) (join same B (μ ∷ [])) (join same A B) (join same B A) (same_bag (merges same μ B) (join same B (μ ∷ [])) (join_one B μ)) (join_turned A B))
      (IsPermutation-sym (join same B (μ ∷ A)) (join same B (μ ∷ []) ++ join same B A) (join_first B μ A))

-- ---- closed trees in each of some graphs

module _ (w : ℕ) (D : List QuadParts) (v : ℕ) (is : List Term) where
  abbrev in_each : Algebra → List (Solution Term)
  in_each A = flat_map (λ i. join term_eq (eval w D (Some i) A) (named w v i)) is

  abbrev name_of : Term → Solution Term
  name_of i = set (replicate w None) v (Some i)

  pub closed_in : (C : Algebra) → is_closed C ≡ true → in_each C ≡ join term_eq (flat_map (named w v) is) (eval w D None C)
  closed_in C c =
      (λ j. flat_map (λ i. join term_eq (closed-eval w D (Some i) None C c j) (named w v i)) is)
      ∙ names-outside term_eq term_decides (eval w D None C) name_of is

  pub joined_in : (A C : Algebra) → is_closed C ≡ true → in_each (Join A C) ≡ join term_eq (in_each A) (eval w D None C)
  joined_in A C c =
      (λ j. flat_map (λ i. join term_eq (join term_eq (eval w D (Some i) A) (closed-eval w D (Some i) None C c j)) (named w v i)) is)
      ∙ join-outside term_eq term_decides (eval w D None C) (λ i. eval w D (Some i) A) name_of is

  pub joined_left : (C A : Algebra) → is_closed C ≡ true → IsSameBag (join term_eq (in_each A) (eval w D None C)) (in_each (Join C A))
  joined_left C A c =
      subst (λ l. IsSameBag l (in_each (Join C A))) (joined_in A C c)
      (IsPermutation-flat_map_each
      (λ i. join term_eq (join term_eq (eval w D (Some i) A) (eval w D (Some i) C)) (named w v i))
      (λ i. join term_eq (join term_eq (eval w D (Some i) C) (eval w D (Some i) A)) (named w v i))
      (λ i. join-IsSameBag term_eq term_decides (join term_eq (eval w D (Some i) A) (eval w D (Some i) C)) (join term_eq (eval w D (Some i) C) (eval w D (Some i) A)) (named w v i) (named w v i)
      (join_turned term_eq term_decides (eval w D (Some i) A) (eval w D (Some i) C)) (IsPermutation-refl (named w v i))) is)

-- ---- the rows of the names

module _ (terms : List Term) (w v : ℕ) where
  abbrev row_of : ℕ → Solution ℕ
  row_of n = set (replicate w None) v (Some n)

  names_known : (graphs : List ℕ) → ((k n : ℕ) → slice_get graphs k ≡ Some n → n < length terms) → Each (Known terms) (map row_of graphs)
  names_known [] low = tt
  names_known (n ∷ graphs) low = (set_known terms (replicate w None) v (Some n) (low 0 n refl) (row_begins terms w (replicate w None) refl).0, names_known graphs (λ k m e. low (suc k) m e))

  names_read : (graphs : List ℕ) → map (read_by terms) (map row_of graphs) ≡ flat_map (named w v) (map (term_at terms) graphs)
  names_read [] = refl
  names_read (n ∷ graphs) =
      λ i. (set_read terms (replicate w None) v (Some n) ∙ ap (λ r. set r v (Some (term_at terms n))) (row_begins terms w (replicate w None) refl).1) i ∷ names_read graphs i

  pub names_evaluated : (graphs : List ℕ) → ((k n : ℕ) → slice_get graphs k ≡ Some n → n < length terms) → (made : RowList) → made.width ≡ w → made.rows ≡ map row_of graphs
      → IsEvaluated terms w (flat_map (named w v) (map (term_at terms) graphs)) made terms
  names_evaluated graphs low made wide is =
      evaluated terms w (flat_map (named w v) (map (term_at terms) graphs)) made wide (subst (Each (Known terms)) (sym is) (names_known graphs low)) (ap (map (read_by terms)) is ∙ names_read graphs)

-- whether a list of graphs is empty
pub no_graphs : (graphs : List ℕ) → true ≡ (length graphs == 0) → graphs ≡ []
no_graphs [] h = refl
no_graphs (n ∷ graphs) h = absurd (grind (arith, nat_tests))

pub some_graphs : (graphs : List ℕ) → false ≡ (length graphs == 0) → 0 < length graphs
some_graphs [] h = absurd (grind (arith, nat_tests))
some_graphs (n ∷ graphs) h = omega arith

-- no graphs have no solutions
pub none_in : (terms : List Term) (index : List NumQuad) (w v : ℕ) (graphs : List ℕ) → graphs ≡ [] → (A : Algebra) (made : RowList) → made.width ≡ w → made.rows ≡ [] → IsEvaluated terms w (solutions_in terms index w v graphs A) made terms
none_in terms index w v graphs none A made wide is =
    evaluated terms w (solutions_in terms index w v graphs A) made wide (subst (Each (Known terms)) (sym is) tt)
    (ap (map (read_by terms)) is ∙ ap (λ (l : List ℕ). solutions_in terms index w v l A) (sym none))

-- ---- the terms that closed trees compute

module _ (w : ℕ) (D : List QuadParts) where
  pub closed_computed : (g h : Option Term) (A : Algebra) → is_closed A ≡ true → (t : Term) → IsComputed w D g A t → IsComputed w D h A t
  closed_computed g h (Pattern labels P) c t m = m
  closed_computed g h (Join A B) c t m = let p = and_parts (is_closed A) (is_closed B) c in ⊎_elim (λ x. inl (closed_computed g h A p.0 t x)) (λ x. inr (closed_computed g h B p.1 t x)) m
  closed_computed g h (LeftJoin A B e) c t m = let p = and_parts (is_closed A) (is_closed B) c in ⊎_elim (λ x. inl (closed_computed g h A p.0 t x)) (λ x. inr (closed_computed g h B p.1 t x)) m
  closed_computed g h (Union A B) c t m = let p = and_parts (is_closed A) (is_closed B) c in ⊎_elim (λ x. inl (closed_computed g h A p.0 t x)) (λ x. inr (closed_computed g h B p.1 t x)) m
  closed_computed g h (Minus A B) c t m = let p = and_parts (is_closed A) (is_closed B) c in ⊎_elim (λ x. inl (closed_computed g h A p.0 t x)) (λ x. inr (closed_computed g h B p.1 t x)) m
  closed_computed g h (Graph i A) c t m = m
  closed_computed g h (Filter e A) c t m = closed_computed g h A c t m
  closed_computed g h (Extend v e A) c t m = ⊎_elim (λ x. inl (closed_computed g h A c t x)) (λ (x : IsValue (val e) (eval w D g A) t). inr (subst (λ S. IsValue (val e) S t) (closed-eval w D g h A c) x)) m
  closed_computed g h (Project vs A) c t m = closed_computed g h A c t m
  closed_computed g h (Distinct A) c t m = closed_computed g h A c t m
  closed_computed g h (Table vs rows) c t m = m

module _ (terms : List Term) (index : List NumQuad) (w v : ℕ) (graphs : List ℕ) (are : AreGraphs terms index graphs) where
  -- what is computed in one of the graphs
  pub needed_in_graph : (A : Algebra) (k n : ℕ) → slice_get graphs k ≡ Some n → (t : Term) → Needed terms index w (Some n) A t → NeededIn terms index w (each_graph v) A t
  needed_in_graph A k n at t m = (term_at terms n, ((are.1 k n at).1, m))

  -- some graph is among them
  first_graph : 0 < length graphs → (n : ℕ) × (slice_get graphs 0 ≡ Some n)
  first_graph some = by graphs some
    where
      by : (gs : List ℕ) → 0 < length gs → (n : ℕ) × (slice_get gs 0 ≡ Some n)
      by [] h = absurd (omega arith)
      by (n ∷ gs) h = (n, refl)

  needed_closed : 0 < length graphs → (C : Algebra) → is_closed C ≡ true → (t : Term) → Needed terms index w None C t → NeededIn terms index w (each_graph v) C t
  needed_closed some C c t m =
      let f = first_graph some in
      needed_in_graph C 0 f.0 f.1 t (closed_computed w (quads_at terms index) None (Some (term_at terms f.0)) C c t m)

  pub takes_closed : {E : Type 0} (r : Result (RowList × List Term) E) (C : Algebra) → 0 < length graphs → is_closed C ≡ true
      → IfOk r (λ x. TakesOnly (Needed terms index w None C) terms x.1) → IfOk r (λ x. TakesOnly (NeededIn terms index w (each_graph v) C) terms x.1)
  takes_closed r C some c h =
      IfOk-weaker r (λ x. TakesOnly (Needed terms index w None C) terms x.1) (λ x. TakesOnly (NeededIn terms index w (each_graph v) C) terms x.1)
      (λ x m. takes_more (Needed terms index w None C) (NeededIn terms index w (each_graph v) C) terms x.1 (needed_closed some C c) m) h

  -- the terms of an open tree, followed by those of a closed tree
  pub takes_then : {E : Type 0} (r : Result (RowList × List Term) E) (A C : Algebra) (now : List Term) → IsGrown terms now → AreBelow (length terms) index → 0 < length graphs → is_closed C ≡ true
      → TakesOnly (NeededIn terms index w (each_graph v) A) terms now
      → IfOk r (λ x. TakesOnly (Needed now index w None C) now x.1) → IfOk r (λ x. TakesOnly (NeededIn terms index w (each_graph v) (Join A C)) terms x.1)
  takes_then r A C now grown below some c h k =
      let V = NeededIn terms index w (each_graph v) A in
      let N = Needed terms index w None C in
      let W = NeededIn terms index w (each_graph v) (Join A C) in
      IfOk-weaker r (λ x. TakesOnly (Needed now index w None C) now x.1) (λ x. TakesOnly W terms x.1)
      (λ x m. takes_two V N W terms now x.1
      (λ t o. ⊎_elim (λ (p : V t). (p.0, (p.1.0, inl p.1.1))) (λ (q : N t). let p = needed_closed some C c t q in (p.0, (p.1.0, inr p.1.1))) o) h
      (needed_kept terms now grown index below w None (λ n e. cc) C x.1 m)) k

-- the same terms for two inputs in the other order
pub takes_turned : {E : Type 0} (terms : List Term) (index : List NumQuad) (w v : ℕ) (r : Result (RowList × List Term) E) (A B : Algebra)
    → IfOk r (λ x. TakesOnly (NeededIn terms index w (each_graph v) (Join A B)) terms x.1) → IfOk r (λ x. TakesOnly (NeededIn terms index w (each_graph v) (Join B A)) terms x.1)
takes_turned terms index w v r A B h =
    let V = NeededIn terms index w (each_graph v) (Join A B) in
    let W = NeededIn terms index w (each_graph v) (Join B A) in
    IfOk-weaker r (λ x. TakesOnly V terms x.1) (λ x. TakesOnly W terms x.1)
    (λ x m. takes_more V W terms x.1 (λ t (p : V t). (p.0, (p.1.0, ⊎_elim inr inl p.1.1))) m) h

-- the same terms for the same tree
pub takes_as_each : {E : Type 0} (terms : List Term) (index : List NumQuad) (w v : ℕ) (r : Result (RowList × List Term) E) (whole made : Algebra) → whole ≡ made
    → IfOk r (λ x. TakesOnly (NeededIn terms index w (each_graph v) made) terms x.1) → IfOk r (λ x. TakesOnly (NeededIn terms index w (each_graph v) whole) terms x.1)
takes_as_each terms index w v r whole made is h = subst (λ (X : Algebra). IfOk r (λ x. TakesOnly (NeededIn terms index w (each_graph v) X) terms x.1)) (sym is) h

-- ---- results

pub as_bag : {E : Type 0} (t0 : List Term) (w : ℕ) (r : Result (RowList × List Term) E) (A whole : List (Solution Term)) → IsSameBag A whole → IfOk r (λ x. IsEvaluated t0 w A x.0 x.1) → IfOk r (λ x. IsEvaluated t0 w whole x.0 x.1)
as_bag t0 w r A whole is k =
    IfOk-weaker r (λ x. IsEvaluated t0 w A x.0 x.1) (λ x. IsEvaluated t0 w whole x.0 x.1)
    (λ x e. record {
      grown = e.grown;
      wide = e.wide;
      known = e.known;
      bag = IsPermutation-trans (map (read_by x.1) x.0.rows) A whole e.bag is;
    }) k
