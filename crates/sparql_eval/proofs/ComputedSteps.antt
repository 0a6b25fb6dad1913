-- The terms that are added to a dictionary, operator by operator.
use Rattle.std.proofs.Common.{◌≡◌, ◌⊎◌, ℕ, zero, suc, ◌<◌, List, [], ◌∷◌, length, map, slice_get, nat_eq, IsPermutation, Contains, Option, Some, Result, IfOk, inl, inr, ap, sym, subst, arith}
use Rattle.std.specs.Option.{option_map, ForSome}
use Rattle.std.proofs.lemmas.List.Sorted.{Contains-permutation, IsPermutation-map, IsPermutation-sym}
use Rattle.std.proofs.lemmas.Result.{IfOk-weaker}
use Rattle.rdf_core.specs.declared.term.Term.{Term}
use Rattle.algebra_model.specs.Algebra.{Algebra, Extend, each_graph}
use Rattle.algebra_model.specs.Bag.{without_repeats}
use Rattle.algebra_model.specs.Dataset.{names}
use Rattle.algebra_model.specs.Eval.{eval}
use Rattle.algebra_model.specs.Expression.{Expression, val}
use Rattle.algebra_model.specs.Solution.{Solution}
use Rattle.dict_core.specs.Dict.{IsGrown, AreDistinct, term_at}
use Rattle.dict_core.specs.NumQuad.{AreBelow, quads_at}
use Rattle.dict_core.specs.declared.num_quad.NumQuad.{NumQuad}
use Rattle.quad_index.specs.Matching.{graph_names}
use Rattle.row_core.specs.RowList.{RowList}
use Rattle.sparql_eval.specs.Computed.{IsComputed, IsValue, TakesOnly}
use Rattle.sparql_eval.specs.Evaluated.{IsEvaluated, solutions_of}
use Rattle.sparql_eval.specs.TreeSolutions.{AreGraphs, Needed, NeededIn}
use Rattle.sparql_eval.proofs.EvaluateSteps.{active_kept, index_kept}
use Rattle.sparql_eval.proofs.GraphSteps.{graph_below, names_once, names_read}
use Rattle.sparql_eval.proofs.ReadingLaws.{Each-at}
use Rattle.sparql_eval.proofs.TakingLaws.{takes_more, takes_none, takes_twice}

-- ---- the result of an operator that leaves the dictionary unchanged

pub takes_still : {E : Type 0} (W : Term → Type 0) (t0 t1 : List Term) (r : Result (RowList × List Term) E) → TakesOnly W t0 t1 → IfOk r (λ x. x.1 ≡ t1) → IfOk r (λ x. TakesOnly W t0 x.1)
takes_still W t0 t1 r h k = IfOk-weaker r (λ x. x.1 ≡ t1) (λ x. TakesOnly W t0 x.1) (λ x e. subst (TakesOnly W t0) (sym e) h) k

pub takes_nothing : {E : Type 0} (W : Term → Type 0) (terms : List Term) (r : Result (RowList × List Term) E) → IfOk r (λ x. x.1 ≡ terms) → IfOk r (λ x. TakesOnly W terms x.1)
takes_nothing W terms r k = takes_still W terms terms r (takes_none W terms) k

-- the terms of one step and those of the next one, one after another
pub takes_two : (V V' W : Term → Type 0) (a b c : List Term) → ((t : Term) → V t ⊎ V' t → W t) → TakesOnly V a b → TakesOnly V' b c → TakesOnly W a c
takes_two V V' W a b c f h k = takes_twice W a b c (takes_more V W a b (λ t v. f t (inl v)) h) (takes_more V' W b c (λ t v. f t (inr v)) k)

-- ---- the terms that a tree computes, if the dictionary of the index grows

module _ (terms now : List Term) (grown : IsGrown terms now) (D : List NumQuad) (below : AreBelow (length terms) D) (w : ℕ) (g : Option ℕ) (named : ForSome g (λ n. n < length terms)) where
  -- an expression computes the same terms through a dictionary that has grown
  pub needed_kept : (A : Algebra) (later : List Term) → TakesOnly (Needed now D w g A) now later → TakesOnly (Needed terms D w g A) now later
  needed_kept A later h =
      subst (λ (i : Option Term). TakesOnly (IsComputed w (quads_at terms D) i A) now later) (active_kept terms now grown g named).1
      (subst (λ Q. TakesOnly (IsComputed w Q (option_map (term_at now) g) A) now later) (index_kept terms now grown D below).1 h)

  -- two inputs, one after the other
  pub takes_both : {E : Type 0} (r : Result (RowList × List Term) E) (A B whole joined : Algebra) → whole ≡ joined → ((t : Term) → Needed terms D w g A t ⊎ Needed terms D w g B t → Needed terms D w g joined t)
      → TakesOnly (Needed terms D w g A) terms now → IfOk r (λ x. TakesOnly (Needed now D w g B) now x.1) → IfOk r (λ x. TakesOnly (Needed terms D w g whole) terms x.1)
  takes_both r A B whole joined is f h k =
      IfOk-weaker r (λ x. TakesOnly (Needed now D w g B) now x.1) (λ x. TakesOnly (Needed terms D w g whole) terms x.1)
      (λ x m. subst (λ (X : Algebra). TakesOnly (Needed terms D w g X) terms x.1) (sym is)
      (takes_two (Needed terms D w g A) (Needed terms D w g B) (Needed terms D w g joined) terms now x.1 f h (needed_kept B x.1 m))) k

module _ {E : Type 0} (terms : List Term) (D : List NumQuad) (w : ℕ) (g : Option ℕ) (r : Result (RowList × List Term) E) (whole made : Algebra) (is : whole ≡ made) where
  -- an expression with the same parts computes the same terms
  pub takes_as : IfOk r (λ x. TakesOnly (Needed terms D w g made) terms x.1) → IfOk r (λ x. TakesOnly (Needed terms D w g whole) terms x.1)
  takes_as h = subst (λ (X : Algebra). IfOk r (λ x. TakesOnly (Needed terms D w g X) terms x.1)) (sym is) h

-- ---- Extend

-- the values for rows are the values of their solutions
values_needed : (terms now : List Term) (w : ℕ) (A : List (Solution Term)) (rows : RowList) → IsEvaluated terms w A rows now → (value : Solution Term → Option Term) (t : Term) → IsValue value (solutions_of now rows) t → IsValue value A t
values_needed terms now w A rows h value t m = Contains-permutation (map value (solutions_of now rows)) (map value A) (Some t) (IsPermutation-map value (solutions_of now rows) A h.bag) m

-- the terms of the input, followed by the values
pub takes_values : {E : Type 0} (terms : List Term) (D : List NumQuad) (w : ℕ) (g : Option ℕ) (r : Result (RowList × List Term) E) (v : ℕ) (e : Expression) (A : Algebra) (now : List Term) (rows : RowList)
    → IsEvaluated terms w (eval w (quads_at terms D) (option_map (term_at terms) g) A) rows now → TakesOnly (Needed terms D w g A) terms now
    → IfOk r (λ x. TakesOnly (IsValue (val e) (solutions_of now rows)) now x.1) → IfOk r (λ x. TakesOnly (Needed terms D w g (Extend v e A)) terms x.1)
takes_values {E} terms D w g r v e A now rows h before k =
    let S = eval w (quads_at terms D) (option_map (term_at terms) g) A in
    IfOk-weaker r (λ x. TakesOnly (IsValue (val e) (solutions_of now rows)) now x.1) (λ x. TakesOnly (Needed terms D w g (Extend v e A)) terms x.1)
    (λ x m. takes_two (Needed terms D w g A) (IsValue (val e) S) (Needed terms D w g (Extend v e A)) terms now x.1 (λ t o. o) before
    (takes_more (IsValue (val e) (solutions_of now rows)) (IsValue (val e) S) now x.1 (values_needed terms now w S rows h (val e)) m)) k

-- ---- Graph

-- in one of some graphs, after the graphs before it
pub takes_in_each : (terms : List Term) (index : List NumQuad) (w : ℕ) (A : Algebra) (below : AreBelow (length terms) index) (v n : ℕ) → (n < length terms) × Contains (names (quads_at terms index)) (term_at terms n)
    → (now later : List Term) → IsGrown terms now
    → TakesOnly (NeededIn terms index w (each_graph v) A) terms now → TakesOnly (Needed now index w (Some n) A) now later → TakesOnly (NeededIn terms index w (each_graph v) A) terms later
takes_in_each terms index w A below v n is now later grown h e =
    takes_twice (NeededIn terms index w (each_graph v) A) terms now later h
    (takes_more (Needed terms index w (Some n) A) (NeededIn terms index w (each_graph v) A) now later (λ t m. (term_at terms n, (is.1, m)))
    (needed_kept terms now grown index below w (Some n) (λ m e. let p : n ≡ m = cc in subst (λ (x : ℕ). x < length terms) p is.0) A later e))

-- all graphs are graphs
contains_mapped : {X Y : Type 0} (f : X → Y) (xs : List X) (k : ℕ) (x : X) → slice_get xs k ≡ Some x → Contains (map f xs) (f x)
contains_mapped f [] k x e = cc
contains_mapped f (y ∷ xs) zero x e = let p : y ≡ x = cc in (0, omega arith, ap f p)
contains_mapped f (y ∷ xs) (suc k) x e = let r = contains_mapped f xs k x e in (suc r.0, omega (arith, r.1), r.2)

pub all_graphs : (terms : List Term) → AreDistinct terms → (index : List NumQuad) → AreBelow (length terms) index → (graphs : List ℕ) → IsPermutation (without_repeats nat_eq (graph_names index)) graphs → AreGraphs terms index graphs
all_graphs terms once index below graphs are =
    let named = map (term_at terms) graphs in
    let D = names (quads_at terms index) in (
      names_once terms once index below graphs are,
      λ k n at. (
        Each-at (λ g. g < length terms) graphs k n (graph_below terms once index below graphs are) at,
        Contains-permutation named D (term_at terms n) (IsPermutation-sym D named (names_read terms once index below graphs are)) (contains_mapped (term_at terms) graphs k n at),
      ),
    )
