-- Each solution has the width of the plan. So under GRAPH with a variable, Extend may be applied
-- after the solutions of the graphs are joined with the names of the graphs, if it does not mention or
-- bind the variable.
use Rattle.std.proofs.Common.{◌≡◌, ◌≢◌, ℕ, zero, suc, ◌+◌, Bool, true, false, cond, ◌&&◌, List, [], ◌∷◌, ◌++◌, length, map, filter, flat_map, set, replicate, take, Option, None, Some, if◌then◌else◌, refl, sym, ap, ◌∙◌, arith}
use Rattle.std.specs.List.{list_any}
use Rattle.std.proofs.lemmas.List.{length-replicate, length-set, length-take-le, map-append}
use Rattle.rdf_core.specs.declared.term.Term.{Term}
use Rattle.rdf_core.specs.QuadParts.{QuadParts}
use Rattle.rdf_core.proofs.TermLaws.{term_eq}
use Rattle.algebra_model.specs.Algebra.{Algebra, Pattern, Join, LeftJoin, Union, Minus, Graph, Filter, Extend, Project, Distinct, Table, each_graph, one_graph}
use Rattle.algebra_model.specs.Bgp.{Triple, TriplePattern, bgp, every_map, is_in, occurs, terms}
use Rattle.algebra_model.specs.Dataset.{graph, names}
use Rattle.algebra_model.specs.Eval.{eval, named}
use Rattle.algebra_model.specs.Expression.{Expression, holds, val}
use Rattle.algebra_model.specs.Operators.{bind, extend, join, merges, restrict, table_row}
use Rattle.algebra_model.specs.Renaming.{Each}
use Rattle.algebra_model.specs.Solution.{Solution, agree, bound_or, is_compatible, merge, same_solution}
use Rattle.algebra_model.proofs.RangeLaws.{Each-append, Each-filter, Each-flat_map, Each-map, Each-without_repeats}
use Rattle.sparql_eval.specs.Mentions.{mentions}
use Rattle.sparql_eval.proofs.OutwardLaws.{merged_elsewhere, val_elsewhere}

-- ---- the width of solutions

abbrev pub IsWide : {T : Type 0} → ℕ → Solution T → Type 0
IsWide w ρ = length ρ ≡ w

any_of : {X : Type 0} (xs : List X) → Each (λ (x : X). Unit {0}) xs
any_of [] = tt
any_of (x ∷ xs) = (tt, any_of xs)

module _ {T : Type 0} where
  merge_alike : (μ ν : Solution T) → length μ ≡ length ν → length (merge μ ν) ≡ length ν
  merge_alike [] ν h = refl
  merge_alike (x ∷ μ) [] h = h
  merge_alike (x ∷ μ) (y ∷ ν) h = ap suc (merge_alike μ ν (omega (arith, h)))

  merge_wide : (w : ℕ) (μ ν : Solution T) → IsWide w μ → IsWide w ν → IsWide w (merge μ ν)
  merge_wide w μ ν h k = merge_alike μ ν (h ∙ sym k) ∙ k

  bind_wide : (u : ℕ) (t : Option T) (μ : Solution T) → length (bind u t μ) ≡ length μ
  bind_wide u t [] = refl
  bind_wide zero t (None ∷ μ) = refl
  bind_wide zero t (Some x ∷ μ) = refl
  bind_wide (suc u) t (x ∷ μ) = ap suc (bind_wide u t μ)

  restrict_wide : (keeps : ℕ → Bool) (μ : Solution T) → length (restrict keeps μ) ≡ length μ
  restrict_wide keeps [] = refl
  restrict_wide keeps (x ∷ μ) = ap suc (restrict_wide (λ k. keeps (suc k)) μ)

  table_row_wide : (w : ℕ) (vs : List ℕ) (cells : List (Option T)) → IsWide w (table_row w vs cells)
  table_row_wide w [] cells = length-replicate w None
  table_row_wide w (v ∷ vs) [] = length-replicate w None
  table_row_wide w (v ∷ vs) (x ∷ cells) = length-set (table_row w vs cells) v x ∙ table_row_wide w vs cells

  named_wide : (w v : ℕ) (i : T) → IsWide w (set (replicate w None) v (Some i))
  named_wide w v i = length-set (replicate w None) v (Some i) ∙ length-replicate w None

  every_map_wide : (ts : List T) (n : ℕ) (uses : ℕ → Bool) → Each (IsWide n) (every_map uses ts n)
  every_map_wide ts zero uses = (refl, tt)
  every_map_wide ts (suc n) uses =
      let i = every_map_wide ts n (λ k. uses (suc k)) in
      Each-flat_map (λ (x : Option T). Unit {0}) (IsWide (suc n)) (λ x. map (λ μ. x ∷ μ) (every_map (λ k. uses (suc k)) ts n))
      (λ x e. Each-map (IsWide n) (IsWide (suc n)) (λ μ. x ∷ μ) (λ μ h. ap suc h) (every_map (λ k. uses (suc k)) ts n) i)
      (if uses 0 then map Some ts else (None ∷ [])) (any_of (if uses 0 then map Some ts else (None ∷ [])))

  module _ (same : T → T → Bool) where
    bgp_wide : (w l : ℕ) (P : List (TriplePattern T)) (G : List (Triple T)) → Each (IsWide w) (bgp same w l P G)
    bgp_wide w l P G =
        let maps = every_map (occurs w P) (terms same G) (w + l) in
        Each-map (IsWide (w + l)) (IsWide w) (take w) (λ μ h. length-take-le w μ (omega (arith, h))) (filter (is_in same w P G) maps)
        (Each-filter (IsWide (w + l)) (is_in same w P G) maps (every_map_wide (terms same G) (w + l) (occurs w P)))

    join_wide : (w : ℕ) (A B : List (Solution T)) → Each (IsWide w) A → Each (IsWide w) B → Each (IsWide w) (join same A B)
    join_wide w A B h k =
        Each-flat_map (IsWide w) (IsWide w) (λ μ. merges same μ B)
        (λ μ i. Each-map (IsWide w) (IsWide w) (merge μ) (λ ν j. merge_wide w μ ν i j) (filter (is_compatible same μ) B) (Each-filter (IsWide w) (is_compatible same μ) B k)) A h

module _ (w : ℕ) (D : List QuadParts) where
  pub eval_wide : (g : Option Term) (A : Algebra) → Each (IsWide w) (eval w D g A)
  eval_wide g (Pattern labels P) = bgp_wide term_eq w labels P (graph D g)
  eval_wide g (Join A B) = join_wide term_eq w (eval w D g A) (eval w D g B) (eval_wide g A) (eval_wide g B)
  eval_wide g (LeftJoin A B e) =
      Each-append (IsWide w) (filter (holds e) (join term_eq (eval w D g A) (eval w D g B))) (filter _ (eval w D g A))
      (Each-filter (IsWide w) (holds e) (join term_eq (eval w D g A) (eval w D g B)) (join_wide term_eq w (eval w D g A) (eval w D g B) (eval_wide g A) (eval_wide g B)))
      (Each-filter (IsWide w) _ (eval w D g A) (eval_wide g A))
  eval_wide g (Union A B) = Each-append (IsWide w) (eval w D g A) (eval w D g B) (eval_wide g A) (eval_wide g B)
  eval_wide g (Minus A B) = Each-filter (IsWide w) _ (eval w D g A) (eval_wide g A)
  eval_wide g (Graph (each_graph u) A) =
      Each-flat_map (λ (i : Term). Unit {0}) (IsWide w) (λ i. join term_eq (eval w D (Some i) A) (named w u i))
      (λ i e. join_wide term_eq w (eval w D (Some i) A) (named w u i) (eval_wide (Some i) A) (named_wide w u i, tt))
      (names D) (any_of (names D))
  eval_wide g (Graph (one_graph t) A) = by (list_any (term_eq t) (names D)) (eval_wide (Some t) A)
    where
      by : (b : Bool) → Each (IsWide w) (eval w D (Some t) A) → Each (IsWide w) (if b then eval w D (Some t) A else [])
      by true i = i
      by false i = tt
  eval_wide g (Filter e A) = Each-filter (IsWide w) (holds e) (eval w D g A) (eval_wide g A)
  eval_wide g (Extend u e A) = Each-map (IsWide w) (IsWide w) (λ μ. bind u (val e μ) μ) (λ μ h. bind_wide u (val e μ) μ ∙ h) (eval w D g A) (eval_wide g A)
  eval_wide g (Project vs A) = Each-map (IsWide w) (IsWide w) (restrict _) (λ μ h. restrict_wide _ μ ∙ h) (eval w D g A) (eval_wide g A)
  eval_wide g (Distinct A) = Each-without_repeats (IsWide w) (same_solution term_eq) (eval w D g A) (eval_wide g A)
  eval_wide g (Table vs rows) = Each-map (λ (r : List (Option Term)). Unit {0}) (IsWide w) (table_row w vs) (λ r u. table_row_wide w vs r) rows (any_of rows)

-- ---- Extend, before the name or after it

only : (x : Option Term) → bound_or x None ≡ x
only None = refl
only (Some x) = refl

with_none : (x : Option Term) → agree term_eq x None ≡ true
with_none None = refl
with_none (Some x) = refl

compatible_nones : (w : ℕ) (μ : Solution Term) → is_compatible term_eq μ (replicate w None) ≡ true
compatible_nones w [] = refl
compatible_nones zero (x ∷ μ) = refl
compatible_nones (suc w) (x ∷ μ) = λ j. with_none x j && compatible_nones w μ j

merge_nones : (w : ℕ) (μ : Solution Term) → length μ ≡ w → merge μ (replicate w None) ≡ μ
merge_nones zero [] h = refl
merge_nones zero (x ∷ μ) h = refl
merge_nones (suc w) [] h = absurd (omega (arith, h))
merge_nones (suc w) (x ∷ μ) h = λ j. only x j ∷ merge_nones w μ (omega (arith, h)) j

module _ (i : Term) (t : Option Term) where
  bind_compatible : (w u v : ℕ) → u ≢ v → (μ : Solution Term) → length μ ≡ w
      → is_compatible term_eq (bind u t μ) (set (replicate w None) v (Some i)) ≡ is_compatible term_eq μ (set (replicate w None) v (Some i))
  bind_compatible w u v d [] h = refl
  bind_compatible zero u v d (x ∷ μ) h = absurd (omega (arith, h))
  bind_compatible (suc w) zero zero d (x ∷ μ) h = absurd (d refl)
  bind_compatible (suc w) zero (suc v) d (None ∷ μ) h = λ j. with_none t j && is_compatible term_eq μ (set (replicate w None) v (Some i))
  bind_compatible (suc w) zero (suc v) d (Some x ∷ μ) h = refl
  bind_compatible (suc w) (suc u) zero d (x ∷ μ) h =
      λ j. agree term_eq x (Some i) && (compatible_nones w (bind u t μ) ∙ sym (compatible_nones w μ)) j
  bind_compatible (suc w) (suc u) (suc v) d (x ∷ μ) h = λ j. agree term_eq x None && bind_compatible w u v (λ e. d (ap suc e)) μ (omega (arith, h)) j

  bind_merged : (w u v : ℕ) → u ≢ v → (μ : Solution Term) → length μ ≡ w
      → merge (bind u t μ) (set (replicate w None) v (Some i)) ≡ bind u t (merge μ (set (replicate w None) v (Some i)))
  bind_merged zero u v d [] h = refl
  bind_merged (suc w) u v d [] h = absurd (omega (arith, h))
  bind_merged zero u v d (x ∷ μ) h = absurd (omega (arith, h))
  bind_merged (suc w) zero zero d (x ∷ μ) h = absurd (d refl)
  bind_merged (suc w) zero (suc v) d (None ∷ μ) h = λ j. only t j ∷ merge μ (set (replicate w None) v (Some i))
  bind_merged (suc w) zero (suc v) d (Some x ∷ μ) h = refl
  bind_merged (suc w) (suc u) zero d (x ∷ μ) h =
      λ j. bound_or x (Some i) ∷ (merge_nones w (bind u t μ) (bind_wide u t μ ∙ omega (arith, h)) ∙ sym (ap (bind u t) (merge_nones w μ (omega (arith, h))))) j
  bind_merged (suc w) (suc u) (suc v) d (x ∷ μ) h = λ j. bound_or x None ∷ bind_merged w u v (λ e. d (ap suc e)) μ (omega (arith, h)) j

module _ (w v : ℕ) (i : Term) (u : ℕ) (d : u ≢ v) (e : Expression) (m : mentions e v ≡ false) where
  abbrev n : Solution Term
  n = set (replicate w None) v (Some i)

  one_extended : (μ : Solution Term) → IsWide w μ → merges term_eq (bind u (val e μ) μ) (n ∷ []) ≡ extend u (val e) (merges term_eq μ (n ∷ []))
  one_extended μ h =
      ap (λ (b : Bool). map (merge (bind u (val e μ) μ)) (cond b (n ∷ []) [])) (bind_compatible i (val e μ) w u v d μ h) ∙ by (is_compatible term_eq μ n)
    where
      by : (b : Bool) → map (merge (bind u (val e μ) μ)) (cond b (n ∷ []) []) ≡ extend u (val e) (map (merge μ) (cond b (n ∷ []) []))
      by true = λ j. (bind_merged i (val e μ) w u v d μ h ∙ ap (λ (t : Option Term). bind u t (merge μ n)) (sym (val_elsewhere v (merge μ n) μ (merged_elsewhere w v i μ) e m))) j ∷ []
      by false = refl

  pub extend_joined : (X : List (Solution Term)) → Each (IsWide w) X → join term_eq (extend u (val e) X) (n ∷ []) ≡ extend u (val e) (join term_eq X (n ∷ []))
  extend_joined [] h = refl
  extend_joined (μ ∷ X) h =
      (λ j. one_extended μ h.0 j ++ extend_joined X h.1 j)
      ∙ sym (map-append (λ ρ. bind u (val e ρ) ρ) (merges term_eq μ (n ∷ [])) (join term_eq X (n ∷ [])))

module _ (w : ℕ) (D : List QuadParts) (v u : ℕ) (d : u ≢ v) (e : Expression) (m : mentions e v ≡ false) (A : Algebra) where
  abbrev in_each : List Term → Algebra → List (Solution Term)
  in_each is B = flat_map (λ i. join term_eq (eval w D (Some i) B) (named w v i)) is

  pub extend_in : (is : List Term) → in_each is (Extend u e A) ≡ extend u (val e) (in_each is A)
  extend_in [] = refl
  extend_in (i ∷ is) =
      (λ j. extend_joined w v i u d e m (eval w D (Some i) A) (eval_wide w D (Some i) A) j ++ extend_in is j)
      ∙ sym (map-append (λ ρ. bind u (val e ρ) ρ) (join term_eq (eval w D (Some i) A) (named w v i)) (in_each is A))
