-- All solutions of an expression have the same width.
use Rattle.std.proofs.Common.{◌≡◌, ℕ, zero, suc, ◌+◌, ◌≤◌, ◌||◌, not, Bool, true, false, cond, List, [], ◌∷◌, ◌++◌, length, take, map, filter, flat_map, set, replicate, Option, None, Some, refl, sym, ap, ◌∙◌, arith, if◌then◌else◌, length-set}
use Rattle.std.specs.Prelude.{◌==◌}
use Rattle.std.specs.List.{list_all, list_any}
use Rattle.std.proofs.lemmas.List.{length-replicate, length-take-le}
use Rattle.rdf_core.specs.declared.term.Term.{Term}
use Rattle.rdf_core.specs.QuadParts.{QuadParts}
use Rattle.rdf_core.proofs.TermLaws.{term_eq}
use Rattle.algebra_model.specs.Algebra.{Algebra, GraphName, Pattern, Join, LeftJoin, Union, Minus, Graph, Filter, Extend, Project, Distinct, Table, each_graph, one_graph}
use Rattle.algebra_model.specs.Bgp.{every_map, is_in, occurs, terms}
use Rattle.algebra_model.specs.Dataset.{graph, names}
use Rattle.algebra_model.specs.Eval.{eval, in_graphs, named}
use Rattle.algebra_model.specs.Expression.{holds, val}
use Rattle.algebra_model.specs.Operators.{bind, join, left_join, merges, minus, restrict, share, table_row}
use Rattle.algebra_model.specs.Renaming.{Each}
use Rattle.algebra_model.specs.Solution.{Solution, is_compatible, merge, same_solution}
use Rattle.algebra_model.specs.Solve.{alone}
use Rattle.algebra_model.proofs.RangeLaws.{Each-append, Each-filter, Each-flat_map, Each-map, Each-without_repeats}
use Rattle.query_split.proofs.OperatorSplits.{Each-all}

length-merge : (n : ℕ) (μ ν : Solution Term) → length μ ≡ n → length ν ≡ n → length (merge μ ν) ≡ n
length-merge n [] ν a b = b
length-merge n (x ∷ μ) [] a b = a
length-merge zero (x ∷ μ) (y ∷ ν) a b = absurd (omega (arith, a))
length-merge (suc n) (x ∷ μ) (y ∷ ν) a b = let e = length-merge n μ ν (omega (arith, a)) (omega (arith, b)) in omega (arith, e)

length-bind : (v : ℕ) (t : Option Term) (μ : Solution Term) → length (bind v t μ) ≡ length μ
length-bind v t [] = refl
length-bind zero t (None ∷ μ) = refl
length-bind zero t (Some x ∷ μ) = refl
length-bind (suc v) t (x ∷ μ) = ap suc (length-bind v t μ)

pub length-restrict : (keeps : ℕ → Bool) (μ : Solution Term) → length (restrict keeps μ) ≡ length μ
length-restrict keeps [] = refl
length-restrict keeps (x ∷ μ) = ap suc (length-restrict (λ k. keeps (suc k)) μ)

length-table_row : (w : ℕ) (vs : List ℕ) (cells : List (Option Term)) → length (table_row w vs cells) ≡ w
length-table_row w [] cells = length-replicate w None
length-table_row w (v ∷ vs) [] = length-replicate w None
length-table_row w (v ∷ vs) (x ∷ cells) = length-set (table_row w vs cells) v x ∙ length-table_row w vs cells

maps_long : (U : ℕ → Bool) (ts : List Term) (n : ℕ) → Each (λ μ. length μ ≡ n) (every_map U ts n)
maps_long U ts zero = (refl, tt)
maps_long U ts (suc n) =
    let ih = maps_long (λ k. U (suc k)) ts n in
    let choices = if U 0 then map Some ts else (None ∷ []) in
    Each-flat_map (λ _. Unit {0}) (λ μ. length μ ≡ suc n) (λ x. map (λ μ. x ∷ μ) (every_map (λ k. U (suc k)) ts n))
    (λ x _. Each-map (λ μ. length μ ≡ n) (λ μ. length μ ≡ suc n) (λ μ. x ∷ μ) (λ μ e. ap suc e) (every_map (λ k. U (suc k)) ts n) ih)
    choices (Each-all (λ _. tt) choices)

module _ (w : ℕ) (D : List QuadParts) where
  abbrev pub IsWide : Solution Term → Type 0
  IsWide μ = length μ ≡ w

  merges_wide : (μ : Solution Term) → IsWide μ → (B : List (Solution Term)) → Each IsWide B → Each IsWide (merges term_eq μ B)
  merges_wide μ a B b = Each-map IsWide IsWide (merge μ) (λ ν c. length-merge w μ ν a c) (filter (is_compatible term_eq μ) B) (Each-filter IsWide (is_compatible term_eq μ) B b)

  join_wide : (A B : List (Solution Term)) → Each IsWide A → Each IsWide B → Each IsWide (join term_eq A B)
  join_wide A B a b = Each-flat_map IsWide IsWide (λ μ. merges term_eq μ B) (λ μ c. merges_wide μ c B b) A a

  graphs_wide : (i : GraphName) (P : Option Term → List (Solution Term)) → ((h : Option Term) → Each IsWide (P h)) → Each IsWide (in_graphs w D i P)
  graphs_wide (each_graph v) P h =
      Each-flat_map (λ _. Unit {0}) IsWide (λ i. join term_eq (P (Some i)) (named w v i))
      (λ i _. join_wide (P (Some i)) (named w v i) (h (Some i)) (length-set (replicate w None) v (Some i) ∙ length-replicate w None, tt)) (names D) (Each-all (λ _. tt) (names D))
  graphs_wide (one_graph i) P h = one (list_any (term_eq i) (names D))
    where
      one : (b : Bool) → Each IsWide (if b then P (Some i) else [])
      one true = h (Some i)
      one false = tt

  pub wide : (A : Algebra) (g : Option Term) → Each IsWide (eval w D g A)
  wide (Pattern labels P) g =
      let G = graph D g in
      let maps = every_map (occurs w P) (terms term_eq G) (w + labels) in
      Each-map (λ μ. length μ ≡ w + labels) IsWide (take w) (λ μ e. length-take-le w μ (omega (arith, e))) (filter (is_in term_eq w P G) maps)
      (Each-filter (λ μ. length μ ≡ w + labels) (is_in term_eq w P G) maps (maps_long (occurs w P) (terms term_eq G) (w + labels)))
  wide (Join A B) g = join_wide (eval w D g A) (eval w D g B) (wide A g) (wide B g)
  wide (LeftJoin A B e) g =
      Each-append IsWide (filter (holds e) (join term_eq (eval w D g A) (eval w D g B))) (filter (alone term_eq (holds e) (eval w D g B)) (eval w D g A))
      (Each-filter IsWide (holds e) (join term_eq (eval w D g A) (eval w D g B)) (join_wide (eval w D g A) (eval w D g B) (wide A g) (wide B g)))
      (Each-filter IsWide (alone term_eq (holds e) (eval w D g B)) (eval w D g A) (wide A g))
  wide (Union A B) g = Each-append IsWide (eval w D g A) (eval w D g B) (wide A g) (wide B g)
  wide (Minus A B) g = Each-filter IsWide (λ μ. list_all (λ ν. not (is_compatible term_eq μ ν) || not (share μ ν)) (eval w D g B)) (eval w D g A) (wide A g)
  wide (Graph i A) g = graphs_wide i (λ h. eval w D h A) (λ h. wide A h)
  wide (Filter e A) g = Each-filter IsWide (holds e) (eval w D g A) (wide A g)
  wide (Extend v e A) g = Each-map IsWide IsWide (λ μ. bind v (val e μ) μ) (λ μ c. length-bind v (val e μ) μ ∙ c) (eval w D g A) (wide A g)
  wide (Project vs A) g = Each-map IsWide IsWide (restrict (λ v. list_any (λ u. u == v) vs)) (λ μ c. length-restrict _ μ ∙ c) (eval w D g A) (wide A g)
  wide (Distinct A) g = Each-without_repeats IsWide (same_solution term_eq) (eval w D g A) (wide A g)
  wide (Table vs rows) g = Each-map (λ _. Unit {0}) IsWide (table_row w vs) (λ r _. length-table_row w vs r) rows (Each-all (λ _. tt) rows)
