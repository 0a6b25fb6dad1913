-- Operators that are applied to the rows of all graphs of a GRAPH with a variable.
use Rattle.std.proofs.Common.{◌≡◌, ◌⊎◌, ℕ, zero, suc, ◌<◌, Bool, true, false, cond, not, ◌&&◌, List, [], ◌∷◌, ◌++◌, get_or, length, map, filter, flat_map, replicate, set, slice_get, nat_eq, Contains, Option, None, Some, Result, IfOk, inl, inr, ⊎_elim, refl, sym, ◌∙◌, subst, arith}
use Rattle.std.specs.List.{IsDistinct}
use Rattle.std.proofs.lemmas.Bool.{false≢true}
use Rattle.std.proofs.lemmas.List.{map-append}
use Rattle.std.proofs.lemmas.List.Elements.{Contains-append_cases}
use Rattle.std.proofs.lemmas.List.Sorted.{Contains-permutation, IsPermutation-map, IsPermutation-sym, IsPermutation-trans}
use Rattle.std.proofs.lemmas.Map.Keys.{IsDistinct-tail}
use Rattle.std.proofs.lemmas.Result.{IfOk-weaker}
use Rattle.rdf_core.specs.declared.term.Term.{Term}
use Rattle.rdf_core.specs.QuadParts.{QuadParts}
use Rattle.rdf_core.proofs.TermLaws.{term_eq, term_decides}
use Rattle.algebra_model.specs.Algebra.{Algebra, Extend, Filter, Join, LeftJoin, Minus, Union, each_graph}
use Rattle.algebra_model.specs.Closed.{is_closed}
use Rattle.algebra_model.specs.Dataset.{names}
use Rattle.algebra_model.specs.Expression.{Expression, holds, val}
use Rattle.algebra_model.specs.Eval.{eval, named}
use Rattle.algebra_model.specs.Operators.{extend, join, left_join, minus}
use Rattle.algebra_model.specs.Solution.{Solution, is_compatible, merge}
use Rattle.algebra_model.proofs.CongruenceLaws.{filter-IsSameBag}
use Rattle.dict_core.specs.Dict.{IsGrown, term_at}
use Rattle.dict_core.specs.NumQuad.{AreBelow, quads_at}
use Rattle.dict_core.specs.declared.num_quad.NumQuad.{NumQuad}
use Rattle.row_core.specs.RowList.{RowList}
use Rattle.sparql_algebra.specs.AlgebraOf.{algebra_of}
use Rattle.sparql_algebra.specs.declared.operator.Operator.{Operator}
use Rattle.sparql_eval.specs.Computed.{InSomeGraph, IsComputed, IsValue, TakesOnly}
use Rattle.sparql_eval.specs.Evaluated.{IsEvaluated, solutions_of}
use Rattle.sparql_eval.specs.Fitting.{IsEvaluatedWhere, fits}
use Rattle.sparql_eval.specs.Mentions.{may_bind, mentions}
use Rattle.sparql_eval.specs.TreeSolutions.{AreGraphs, NeededIn, solutions_in, tree_solutions}
use Rattle.sparql_eval.specs.declared.equalities.Equality.{Equality}
use Rattle.sparql_eval.proofs.ClosedSteps.{as_bag, joined_in, joined_left}
use Rattle.sparql_eval.proofs.ComputedSteps.{takes_two}
use Rattle.sparql_eval.proofs.EachJoinLaws.{joined_each}
use Rattle.sparql_eval.proofs.EvaluateSteps.{after_left, after_one, as_whole, index_kept, tree_kept, join_keeps, left_join_keeps, minus_keeps, union_keeps, extend_keeps}
use Rattle.sparql_eval.proofs.ExtendLaws.{extend_in}
use Rattle.sparql_eval.proofs.FittingSteps.{where_all, where_filtered, where_joined, where_whole}
use Rattle.sparql_eval.proofs.OutwardLaws.{filter_in, left_join_in, merged_elsewhere, minus_in, union_in, val_elsewhere}
use Rattle.sparql_eval.proofs.ReadingLaws.{number_kept}
use Rattle.sparql_eval.proofs.TakingLaws.{Contains-none}
use Rattle.sparql_eval.proofs.UnboundLaws.{differ}

module _ {E : Type 0} (terms : List Term) (index : List NumQuad) (w v : ℕ) (graphs : List ℕ) (r : Result (RowList × List Term) E) where
  abbrev D : List QuadParts
  D = quads_at terms index

  abbrev is : List Term
  is = map (term_at terms) graphs

  abbrev whole : Algebra → List (Solution Term)
  whole A = solutions_in terms index w v graphs A

  pub filter_each : (e : Expression) (A : Algebra) → mentions e v ≡ false → (pairs : List Equality) → ((ρ : Solution Term) → holds e ρ ≡ true → fits [] ρ ≡ true → fits pairs ρ ≡ true)
      → (now : List Term) (rows : RowList) → IsEvaluatedWhere terms w (fits pairs) (whole A) rows now
      → IfOk r (λ x. IsEvaluated now rows.width (filter (holds e) (solutions_of now rows)) x.0 x.1) → IfOk r (λ x. IsEvaluated terms w (whole (Filter e A)) x.0 x.1)
  filter_each e A m pairs so now rows h k =
      let made = filter (holds e) (whole A) in
      as_whole terms w r made (whole (Filter e A)) (filter_in w D v e A m is)
      (IfOk-weaker r (λ x. IsEvaluatedWhere terms w (fits []) made x.0 x.1) (λ x. IsEvaluated terms w made x.0 x.1) (λ x f. where_all terms w made x.0 x.1 f)
      (where_filtered terms now w r e [] pairs so (whole A) rows h k))

  pub extend_each : (u : ℕ) → nat_eq u v ≡ false → (e : Expression) (A : Algebra) → mentions e v ≡ false → (now : List Term) (rows : RowList) → IsEvaluated terms w (whole A) rows now
      → IfOk r (λ x. IsEvaluated now rows.width (extend u (val e) (solutions_of now rows)) x.0 x.1) → IfOk r (λ x. IsEvaluated terms w (whole (Extend u e A)) x.0 x.1)
  extend_each u d e A m now rows h k =
      as_whole terms w r (extend u (val e) (whole A)) (whole (Extend u e A)) (extend_in w D v u (differ u v d) e m A is)
      (after_one terms now w r (extend u (val e)) (extend_keeps u (val e)) (whole A) rows h k)

  module _ (below : AreBelow (length terms) index) (low : v < w) (A : Algebra) (tree : Operator) (c : is_closed (algebra_of tree) ≡ true) (n : may_bind w (algebra_of tree) v ≡ false) (now : List Term) (rows : RowList) (h : IsEvaluated terms w (whole A) rows now) where
    abbrev before : List (Solution Term)
    before = tree_solutions terms index w None tree

    abbrev later : List (Solution Term)
    later = tree_solutions now index w None tree

    pub left_join_each : (e : Expression) → mentions e v ≡ false
        → IfOk r (λ x. IsEvaluated now rows.width (left_join term_eq (holds e) (solutions_of now rows) later) x.0 x.1) → IfOk r (λ x. IsEvaluated terms w (whole (LeftJoin A (algebra_of tree) e)) x.0 x.1)
    left_join_each e m k =
        as_bag terms w r (left_join term_eq (holds e) (whole A) before) (whole (LeftJoin A (algebra_of tree) e))
        (IsPermutation-sym (whole (LeftJoin A (algebra_of tree) e)) (left_join term_eq (holds e) (whole A) before) (left_join_in w D v low A (algebra_of tree) c n e m is))
        (after_left terms now w r (left_join term_eq (holds e)) (left_join_keeps (holds e)) (whole A) before later (tree_kept terms now h.grown index w None tree below (λ n e. cc)) rows h k)

    pub minus_each : IfOk r (λ x. IsEvaluated now rows.width (minus term_eq (solutions_of now rows) later) x.0 x.1) → IfOk r (λ x. IsEvaluated terms w (whole (Minus A (algebra_of tree))) x.0 x.1)
    minus_each k =
        as_whole terms w r (minus term_eq (whole A) before) (whole (Minus A (algebra_of tree))) (minus_in w D v low A (algebra_of tree) c n is)
        (after_left terms now w r (minus term_eq) minus_keeps (whole A) before later (tree_kept terms now h.grown index w None tree below (λ n e. cc)) rows h k)

-- ---- a join with a closed tree, of which only the solutions that fit are needed

module _ {E : Type 0} (terms : List Term) (index : List NumQuad) (below : AreBelow (length terms) index) (w v : ℕ) (graphs : List ℕ) (r : Result (RowList × List Term) E) (pairs : List Equality)
    (A : Algebra) (tree : Operator) (c : is_closed (algebra_of tree) ≡ true) (now : List Term) (rows : RowList) where
  join_each_where : IsEvaluatedWhere terms w (fits pairs) (solutions_in terms index w v graphs A) rows now
      → IfOk r (λ x. IsEvaluatedWhere now rows.width (fits pairs) (join term_eq (solutions_of now rows) (tree_solutions now index w None tree)) x.0 x.1)
      → IfOk r (λ x. IsEvaluatedWhere terms w (fits pairs) (join term_eq (solutions_in terms index w v graphs A) (tree_solutions terms index w None tree)) x.0 x.1)
  join_each_where h k =
      where_joined pairs terms now w r (solutions_in terms index w v graphs A) (tree_solutions terms index w None tree) (tree_solutions now index w None tree) rows
      (tree_kept terms now h.grown index w None tree below (λ n e. cc)) h k

  pub join_right_where : IsEvaluatedWhere terms w (fits pairs) (solutions_in terms index w v graphs A) rows now
      → IfOk r (λ x. IsEvaluatedWhere now rows.width (fits pairs) (join term_eq (solutions_of now rows) (tree_solutions now index w None tree)) x.0 x.1)
      → IfOk r (λ x. IsEvaluatedWhere terms w (fits pairs) (solutions_in terms index w v graphs (Join A (algebra_of tree))) x.0 x.1)
  join_right_where h k =
      where_whole pairs terms w r (join term_eq (solutions_in terms index w v graphs A) (tree_solutions terms index w None tree)) (solutions_in terms index w v graphs (Join A (algebra_of tree)))
      (joined_in w (quads_at terms index) v (map (term_at terms) graphs) A (algebra_of tree) c) (join_each_where h k)

  pub join_left_where : IsEvaluatedWhere terms w (fits pairs) (solutions_in terms index w v graphs A) rows now
      → IfOk r (λ x. IsEvaluatedWhere now rows.width (fits pairs) (join term_eq (solutions_of now rows) (tree_solutions now index w None tree)) x.0 x.1)
      → IfOk r (λ x. IsEvaluatedWhere terms w (fits pairs) (solutions_in terms index w v graphs (Join (algebra_of tree) A)) x.0 x.1)
  join_left_where h k =
      let J = join term_eq (solutions_in terms index w v graphs A) (tree_solutions terms index w None tree) in
      let whole = solutions_in terms index w v graphs (Join (algebra_of tree) A) in
      let p : Solution Term → Bool = fits pairs in
      IfOk-weaker r (λ x. IsEvaluatedWhere terms w p J x.0 x.1) (λ x. IsEvaluatedWhere terms w p whole x.0 x.1)
      (λ x m. record {
        grown = m.grown;
        wide = m.wide;
        known = m.known;
        bag = IsPermutation-trans (filter p (solutions_of x.1 x.0)) (filter p J) (filter p whole) m.bag
            (filter-IsSameBag term_eq term_decides p J whole (joined_left w (quads_at terms index) v (map (term_at terms) graphs) (algebra_of tree) A c));
      }) (join_each_where h k)

-- ---- a closed tree that does not bind the variable

pub apart_parts : (a b : Bool) → a && not b ≡ true → (a ≡ true) × (b ≡ false)
apart_parts true true h = absurd (false≢true h)
apart_parts true false h = (refl, refl)
apart_parts false b h = absurd (false≢true h)

-- ---- graphs, if the dictionary grows

module _ (terms now : List Term) (grown : IsGrown terms now) (index : List NumQuad) (below : AreBelow (length terms) index) where
  names_kept : (graphs : List ℕ) → ((k n : ℕ) → slice_get graphs k ≡ Some n → n < length terms) → map (term_at now) graphs ≡ map (term_at terms) graphs
  names_kept [] low = refl
  names_kept (n ∷ graphs) low = λ i. (number_kept terms now grown n (low 0 n refl)).1 i ∷ names_kept graphs (λ k m at. low (suc k) m at) i

  pub graphs_kept : (graphs : List ℕ) → AreGraphs terms index graphs → AreGraphs now index graphs
  graphs_kept graphs are = (
    subst (IsDistinct term_eq) (sym (names_kept graphs (λ k n at. (are.1 k n at).0))) are.0,
    λ k n at.
        let g = are.1 k n at in
        let kept = number_kept terms now grown n g.0 in
        (kept.0, subst (λ (Q : List QuadParts). Contains (names Q) (term_at now n)) (sym (index_kept terms now grown index below).1) (subst (λ (t : Term). Contains (names (quads_at terms index)) t) (sym kept.1) g.1)),
  )

  pub solutions_kept : (w v : ℕ) (graphs : List ℕ) → AreGraphs terms index graphs → (A : Algebra) → solutions_in now index w v graphs A ≡ solutions_in terms index w v graphs A
  solutions_kept w v graphs are A =
      (λ i. flat_map (λ t. join term_eq (eval w ((index_kept terms now grown index below).1 i) (Some t) A) (named w v t)) (names_kept graphs (λ k n at. (are.1 k n at).0) i))

  pub needed_in_kept : (w v : ℕ) (A : Algebra) (later : List Term) → TakesOnly (NeededIn now index w (each_graph v) A) now later → TakesOnly (NeededIn terms index w (each_graph v) A) now later
  needed_in_kept w v A later h =
      subst (λ (Q : List QuadParts). TakesOnly (λ t. InSomeGraph Q (each_graph v) (λ g. IsComputed w Q g A t)) now later) (index_kept terms now grown index below).1 h

module _ {E : Type 0} (terms now : List Term) (index : List NumQuad) (below : AreBelow (length terms) index) (w v : ℕ) (graphs : List ℕ) (are : AreGraphs terms index graphs) (r : Result (RowList × List Term) E) (A B : Algebra) where
  pub union_each : (rows : RowList) → IsEvaluated terms w (solutions_in terms index w v graphs A) rows now
      → IfOk r (λ x. IsEvaluated now rows.width (solutions_of now rows ++ solutions_in now index w v graphs B) x.0 x.1)
      → IfOk r (λ x. IsEvaluated terms w (solutions_in terms index w v graphs (Union A B)) x.0 x.1)
  union_each rows h k =
      let a = solutions_in terms index w v graphs A in
      let b = solutions_in terms index w v graphs B in
      let both = solutions_in terms index w v graphs (Union A B) in
      as_bag terms w r (a ++ b) both (IsPermutation-sym both (a ++ b) (union_in w (quads_at terms index) v A B (map (term_at terms) graphs)))
      (after_left terms now w r (λ X Y. X ++ Y) union_keeps a b (solutions_in now index w v graphs B) (solutions_kept terms now h.grown index below w v graphs are B) rows h k)

  -- the join of the rows of all graphs
  joined : v < w → solutions_in terms index w v graphs (Join A B) ≡ join term_eq (solutions_in terms index w v graphs A) (solutions_in terms index w v graphs B)
  joined low = joined_each term_eq term_decides w v low (λ i. eval w (quads_at terms index) (Some i) A) (λ i. eval w (quads_at terms index) (Some i) B) (map (term_at terms) graphs) are.0

  pub join_each : v < w → (rows : RowList) → IsEvaluated terms w (solutions_in terms index w v graphs A) rows now
      → IfOk r (λ x. IsEvaluated now rows.width (join term_eq (solutions_of now rows) (solutions_in now index w v graphs B)) x.0 x.1)
      → IfOk r (λ x. IsEvaluated terms w (solutions_in terms index w v graphs (Join A B)) x.0 x.1)
  join_each low rows h k =
      let a = solutions_in terms index w v graphs A in
      let b = solutions_in terms index w v graphs B in
      as_whole terms w r (join term_eq a b) (solutions_in terms index w v graphs (Join A B)) (joined low)
      (after_left terms now w r (join term_eq) join_keeps a b (solutions_in now index w v graphs B) (solutions_kept terms now h.grown index below w v graphs are B) rows h k)

  pub join_each_fitting : v < w → (pairs : List Equality) (rows : RowList) → IsEvaluatedWhere terms w (fits pairs) (solutions_in terms index w v graphs A) rows now
      → IfOk r (λ x. IsEvaluatedWhere now rows.width (fits pairs) (join term_eq (solutions_of now rows) (solutions_in now index w v graphs B)) x.0 x.1)
      → IfOk r (λ x. IsEvaluatedWhere terms w (fits pairs) (solutions_in terms index w v graphs (Join A B)) x.0 x.1)
  join_each_fitting low pairs rows h k =
      let a = solutions_in terms index w v graphs A in
      let b = solutions_in terms index w v graphs B in
      where_whole pairs terms w r (join term_eq a b) (solutions_in terms index w v graphs (Join A B)) (joined low)
      (where_joined pairs terms now w r a b (solutions_in now index w v graphs B) rows (solutions_kept terms now h.grown index below w v graphs are B) h k)

  -- the terms of both trees
  pub takes_pair : IsGrown terms now → TakesOnly (NeededIn terms index w (each_graph v) A) terms now
      → IfOk r (λ x. TakesOnly (NeededIn now index w (each_graph v) B) now x.1) → IfOk r (λ x. TakesOnly (NeededIn terms index w (each_graph v) (Union A B)) terms x.1)
  takes_pair grown h k =
      let V = NeededIn terms index w (each_graph v) A in
      let N = NeededIn terms index w (each_graph v) B in
      let W = NeededIn terms index w (each_graph v) (Union A B) in
      IfOk-weaker r (λ x. TakesOnly (NeededIn now index w (each_graph v) B) now x.1) (λ x. TakesOnly W terms x.1)
      (λ x m. takes_two V N W terms now x.1
      (λ t o. ⊎_elim (λ (p : V t). (p.0, (p.1.0, inl p.1.1))) (λ (q : N t). (q.0, (q.1.0, inr q.1.1))) o) h
      (needed_in_kept terms now grown index below w v B x.1 m)) k

-- ---- the values of Extend

one_of : {X : Type 0} (x y : X) (k : ℕ) → k < 1 → get_or (x ∷ []) k y ≡ y → x ≡ y
one_of x y zero low e = e
one_of x y (suc k) low e = absurd (omega (arith, low))

module _ (terms : List Term) (index : List NumQuad) (w v u : ℕ) (e : Expression) (m : mentions e v ≡ false) (A : Algebra) where
  -- a value after a name is one before it
  value_before : (i : Term) (X : List (Solution Term)) (t : Option Term) → Contains (map (val e) (join term_eq X (named w v i))) t → Contains (map (val e) X) t
  value_before i [] t h = h
  value_before i (μ ∷ X) t h = by (is_compatible term_eq μ (set (replicate w None) v (Some i))) h (value_before i X t)
    where
      n : Solution Term
      n = set (replicate w None) v (Some i)

      later : Contains (map (val e) X) t → Contains (map (val e) (μ ∷ X)) t
      later c = (suc c.0, omega (arith, c.1), c.2)

      by : (b : Bool) → Contains (map (val e) (map (merge μ) (cond b (n ∷ []) []) ++ join term_eq X (named w v i))) t
          → (Contains (map (val e) (join term_eq X (named w v i))) t → Contains (map (val e) X) t) → Contains (map (val e) (μ ∷ X)) t
      by true h up =
          ⊎_elim
          (λ (c : Contains (val e (merge μ n) ∷ []) t). (0, omega arith, sym (val_elsewhere v (merge μ n) μ (merged_elsewhere w v i μ) e m) ∙ one_of (val e (merge μ n)) t c.0 c.1 c.2))
          (λ c. later (up c))
          (Contains-append_cases (val e (merge μ n) ∷ []) (map (val e) (join term_eq X (named w v i))) t h)
      by false h up = later (up h)

  value_in_some : (graphs : List ℕ) → AreGraphs terms index graphs → (t : Term) → IsValue (val e) (solutions_in terms index w v graphs A) t → NeededIn terms index w (each_graph v) (Extend u e A) t
  value_in_some [] are t h = absurd (Contains-none (Some t) h)
  value_in_some (n ∷ graphs) are t h =
      let i = term_at terms n in
      let X = eval w (quads_at terms index) (Some i) A in
      let first = join term_eq X (named w v i) in
      let rest = solutions_in terms index w v graphs A in
      ⊎_elim
      (λ c. (i, ((are.1 0 n refl).1, inr (value_before i X (Some t) c))))
      (λ c. value_in_some graphs (IsDistinct-tail term_eq i (map (term_at terms) graphs) are.0, λ k o at. are.1 (suc k) o at) t c)
      (Contains-append_cases (map (val e) first) (map (val e) rest) (Some t) (subst (λ l. Contains l (Some t)) (map-append (val e) first rest) h))

  -- the terms of the input, followed by the values
  pub takes_each_values : {E : Type 0} (graphs : List ℕ) → AreGraphs terms index graphs → (r : Result (RowList × List Term) E) (now : List Term) (rows : RowList) → IsEvaluated terms w (solutions_in terms index w v graphs A) rows now
      → TakesOnly (NeededIn terms index w (each_graph v) A) terms now → IfOk r (λ x. TakesOnly (IsValue (val e) (solutions_of now rows)) now x.1)
      → IfOk r (λ x. TakesOnly (NeededIn terms index w (each_graph v) (Extend u e A)) terms x.1)
  takes_each_values graphs are r now rows h before k =
      let S = solutions_in terms index w v graphs A in
      let V = NeededIn terms index w (each_graph v) A in
      let W = NeededIn terms index w (each_graph v) (Extend u e A) in
      IfOk-weaker r (λ x. TakesOnly (IsValue (val e) (solutions_of now rows)) now x.1) (λ x. TakesOnly W terms x.1)
      (λ x m. takes_two V (IsValue (val e) (solutions_of now rows)) W terms now x.1
      (λ t o. ⊎_elim (λ (p : V t). (p.0, (p.1.0, inl p.1.1)))
      (λ c. value_in_some graphs are t (Contains-permutation (map (val e) (solutions_of now rows)) (map (val e) S) (Some t) (IsPermutation-map (val e) (solutions_of now rows) S h.bag) c)) o) before m) k
