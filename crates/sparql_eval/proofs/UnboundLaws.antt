-- No solution binds a variable that the tree may not bind.
use Rattle.std.proofs.Common.{◌≡◌, ◌≢◌, ℕ, zero, suc, ◌+◌, Bool, true, false, ◌||◌, List, [], ◌∷◌, get_or, map, filter, set, replicate, take, Option, None, Some, nat_eq, if◌then◌else◌, refl, sym, ap, ◌∙◌}
use Rattle.std.specs.List.{list_any}
use Rattle.std.proofs.lemmas.Bool.{false≢true}
use Rattle.std.proofs.lemmas.Bool.Decides.{Decides-eqb}
use Rattle.std.proofs.lemmas.List.{get_or-set_other}
use Rattle.rdf_core.specs.declared.term.Term.{Term}
use Rattle.rdf_core.specs.QuadParts.{QuadParts}
use Rattle.rdf_core.proofs.TermLaws.{term_eq}
use Rattle.algebra_model.specs.Algebra.{Algebra, Pattern, Join, LeftJoin, Union, Minus, Graph, Filter, Extend, Project, Distinct, Table, each_graph, one_graph}
use Rattle.algebra_model.specs.Bgp.{Triple, TriplePattern, bgp, every_map, is_in, occurs, terms}
use Rattle.algebra_model.specs.Dataset.{graph, names}
use Rattle.algebra_model.specs.Eval.{eval, named}
use Rattle.algebra_model.specs.Expression.{holds, val}
use Rattle.algebra_model.specs.Operators.{bind, join, merges, restrict, table_row}
use Rattle.algebra_model.specs.Renaming.{Each}
use Rattle.algebra_model.specs.Solution.{Solution, bound_or, is_compatible, merge, same_solution}
use Rattle.algebra_model.proofs.RangeLaws.{Each-append, Each-filter, Each-flat_map, Each-map, Each-without_repeats}
use Rattle.sparql_eval.specs.Mentions.{may_bind}
use Rattle.sparql_eval.proofs.KeySteps.{get-merge}

pub neither : (a b : Bool) → (a || b) ≡ false → (a ≡ false) × (b ≡ false)
neither true b h = absurd (false≢true (sym h))
neither false b h = (refl, h)

pub differ : (k v : ℕ) → nat_eq k v ≡ false → k ≢ v
differ k v h e = false≢true (sym h ∙ (Decides-eqb k v).1 e)

-- the variable is unbound
abbrev pub Lacks : {T : Type 0} → ℕ → Solution T → Type 0
Lacks v ρ = get_or ρ v None ≡ None

all_lack : {X : Type 0} (xs : List X) → Each (λ (x : X). Unit {0}) xs
all_lack [] = tt
all_lack (x ∷ xs) = (tt, all_lack xs)

module _ {T : Type 0} where
  pub unbound_lacks : (w v : ℕ) → Lacks {T = T} v (replicate w None)
  unbound_lacks zero v = refl
  unbound_lacks (suc w) zero = refl
  unbound_lacks (suc w) (suc v) = unbound_lacks w v

  set_lacks : (μ : Solution T) (u v : ℕ) (x : Option T) → nat_eq u v ≡ false → Lacks v μ → Lacks v (set μ u x)
  set_lacks μ u v x d h = get_or-set_other μ u v x None (λ e. differ u v d (sym e)) ∙ h

  merge_lacks : (v : ℕ) (μ ν : Solution T) → Lacks v μ → Lacks v ν → Lacks v (merge μ ν)
  merge_lacks v μ ν h k = get-merge μ ν v ∙ (λ i. bound_or (h i) (k i))

  bind_lacks : (u v : ℕ) (x : Option T) → u ≢ v → (μ : Solution T) → Lacks v μ → Lacks v (bind u x μ)
  bind_lacks u v x d [] h = refl
  bind_lacks zero zero x d (y ∷ μ) h = absurd (d refl)
  bind_lacks zero (suc v) x d (None ∷ μ) h = h
  bind_lacks zero (suc v) x d (Some y ∷ μ) h = h
  bind_lacks (suc u) zero x d (y ∷ μ) h = h
  bind_lacks (suc u) (suc v) x d (y ∷ μ) h = bind_lacks u v x (λ e. d (ap suc e)) μ h

  restrict_lacks : (keeps : ℕ → Bool) (v : ℕ) (μ : Solution T) → Lacks v μ → Lacks v (restrict keeps μ)
  restrict_lacks keeps v [] h = refl
  restrict_lacks keeps zero (x ∷ μ) h = either (keeps 0)
    where
      either : (b : Bool) → (if b then x else None) ≡ None
      either true = h
      either false = refl
  restrict_lacks keeps (suc v) (x ∷ μ) h = restrict_lacks (λ k. keeps (suc k)) v μ h

  table_row_lacks : (w v : ℕ) (vs : List ℕ) (cells : List (Option T)) → list_any (λ u. nat_eq u v) vs ≡ false → Lacks v (table_row w vs cells)
  table_row_lacks w v [] cells m = unbound_lacks w v
  table_row_lacks w v (u ∷ vs) [] m = unbound_lacks w v
  table_row_lacks w v (u ∷ vs) (x ∷ cells) m =
      let p = neither (nat_eq u v) (list_any (λ u. nat_eq u v) vs) m in
      set_lacks (table_row w vs cells) u v x p.0 (table_row_lacks w v vs cells p.1)

  take_lacks : (w v : ℕ) (μ : Solution T) → Lacks v μ → Lacks v (take w μ)
  take_lacks zero v μ h = refl
  take_lacks (suc w) v [] h = refl
  take_lacks (suc w) zero (x ∷ μ) h = h
  take_lacks (suc w) (suc v) (x ∷ μ) h = take_lacks w v μ h

  module _ (ts : List T) where
    every_map_lacks : (n v : ℕ) (uses : ℕ → Bool) → uses v ≡ false → Each (Lacks v) (every_map uses ts n)
    every_map_lacks zero v uses m = (refl, tt)
    every_map_lacks (suc n) zero uses m =
        Each-flat_map (λ (x : Option T). x ≡ None) (Lacks zero) (λ x. map (λ μ. x ∷ μ) (every_map (λ k. uses (suc k)) ts n))
        (λ x e. Each-map (λ (μ : Solution T). Unit {0}) (Lacks zero) (λ μ. x ∷ μ) (λ μ u. e) (every_map (λ k. uses (suc k)) ts n) (all_lack (every_map (λ k. uses (suc k)) ts n)))
        (if uses 0 then map Some ts else (None ∷ [])) (first (uses 0) m)
      where
        first : (b : Bool) → b ≡ false → Each (λ (x : Option T). x ≡ None) (if b then map Some ts else (None ∷ []))
        first true e = absurd (false≢true (sym e))
        first false e = (refl, tt)
    every_map_lacks (suc n) (suc v) uses m =
        let i = every_map_lacks n v (λ k. uses (suc k)) m in
        Each-flat_map (λ (x : Option T). Unit {0}) (Lacks (suc v)) (λ x. map (λ μ. x ∷ μ) (every_map (λ k. uses (suc k)) ts n))
        (λ x e. Each-map (Lacks v) (Lacks (suc v)) (λ μ. x ∷ μ) (λ μ h. h) (every_map (λ k. uses (suc k)) ts n) i)
        (if uses 0 then map Some ts else (None ∷ [])) (all_lack (if uses 0 then map Some ts else (None ∷ [])))

  module _ (same : T → T → Bool) (v : ℕ) where
    bgp_lacks : (w l : ℕ) (P : List (TriplePattern T)) (G : List (Triple T)) → occurs w P v ≡ false → Each (Lacks v) (bgp same w l P G)
    bgp_lacks w l P G m =
        let maps = every_map (occurs w P) (terms same G) (w + l) in
        Each-map (Lacks v) (Lacks v) (take w) (λ μ h. take_lacks w v μ h) (filter (is_in same w P G) maps)
        (Each-filter (Lacks v) (is_in same w P G) maps (every_map_lacks (terms same G) (w + l) v (occurs w P) m))

    join_lacks : (A B : List (Solution T)) → Each (Lacks v) A → Each (Lacks v) B → Each (Lacks v) (join same A B)
    join_lacks A B h k =
        Each-flat_map (Lacks v) (Lacks v) (λ μ. merges same μ B)
        (λ μ i. Each-map (Lacks v) (Lacks v) (merge μ) (λ ν j. merge_lacks v μ ν i j) (filter (is_compatible same μ) B) (Each-filter (Lacks v) (is_compatible same μ) B k)) A h

module _ (w : ℕ) (D : List QuadParts) (v : ℕ) where
  pub eval_lacks : (g : Option Term) (A : Algebra) → may_bind w A v ≡ false → Each (Lacks v) (eval w D g A)
  eval_lacks g (Pattern labels P) m = bgp_lacks term_eq v w labels P (graph D g) m
  eval_lacks g (Join A B) m =
      let p = neither (may_bind w A v) (may_bind w B v) m in
      join_lacks term_eq v (eval w D g A) (eval w D g B) (eval_lacks g A p.0) (eval_lacks g B p.1)
  eval_lacks g (LeftJoin A B e) m =
      let p = neither (may_bind w A v) (may_bind w B v) m in
      let a = eval_lacks g A p.0 in
      Each-append (Lacks v) (filter (holds e) (join term_eq (eval w D g A) (eval w D g B))) (filter _ (eval w D g A))
      (Each-filter (Lacks v) (holds e) (join term_eq (eval w D g A) (eval w D g B)) (join_lacks term_eq v (eval w D g A) (eval w D g B) a (eval_lacks g B p.1)))
      (Each-filter (Lacks v) _ (eval w D g A) a)
  eval_lacks g (Union A B) m =
      let p = neither (may_bind w A v) (may_bind w B v) m in
      Each-append (Lacks v) (eval w D g A) (eval w D g B) (eval_lacks g A p.0) (eval_lacks g B p.1)
  eval_lacks g (Minus A B) m = Each-filter (Lacks v) _ (eval w D g A) (eval_lacks g A m)
  eval_lacks g (Graph (each_graph u) A) m =
      let p = neither (nat_eq u v) (may_bind w A v) m in
      Each-flat_map (λ (i : Term). Unit {0}) (Lacks v) (λ i. join term_eq (eval w D (Some i) A) (named w u i))
      (λ i e. join_lacks term_eq v (eval w D (Some i) A) (named w u i) (eval_lacks (Some i) A p.1) (set_lacks (replicate w None) u v (Some i) p.0 (unbound_lacks w v), tt))
      (names D) (all_lack (names D))
  eval_lacks g (Graph (one_graph t) A) m = by (list_any (term_eq t) (names D)) (eval_lacks (Some t) A m)
    where
      by : (b : Bool) → Each (Lacks v) (eval w D (Some t) A) → Each (Lacks v) (if b then eval w D (Some t) A else [])
      by true i = i
      by false i = tt
  eval_lacks g (Filter e A) m = Each-filter (Lacks v) (holds e) (eval w D g A) (eval_lacks g A m)
  eval_lacks g (Extend u e A) m =
      let p = neither (nat_eq u v) (may_bind w A v) m in
      Each-map (Lacks v) (Lacks v) (λ μ. bind u (val e μ) μ) (λ μ h. bind_lacks u v (val e μ) (differ u v p.0) μ h) (eval w D g A) (eval_lacks g A p.1)
  eval_lacks g (Project vs A) m = Each-map (Lacks v) (Lacks v) (restrict _) (λ μ h. restrict_lacks _ v μ h) (eval w D g A) (eval_lacks g A m)
  eval_lacks g (Distinct A) m = Each-without_repeats (Lacks v) (same_solution term_eq) (eval w D g A) (eval_lacks g A m)
  eval_lacks g (Table vs rows) m =
      Each-map (λ (r : List (Option Term)). Unit {0}) (Lacks v) (table_row w vs) (λ r u. table_row_lacks w v vs r m) rows (all_lack rows)
