-- A tree without a triple pattern outside of a GRAPH has the same solutions for every active graph.
-- Under GRAPH with a variable it may be joined after the names of the graphs.
use Rattle.std.proofs.Common.{◌≡◌, ℕ, zero, suc, ◌+◌, Bool, true, false, cond, ◌&&◌, List, [], ◌∷◌, ◌++◌, map, filter, take, flat_map, Option, None, Some, Decides, refl, sym, ap, ◌∙◌}
use Rattle.std.proofs.lemmas.Bool.{false≢true, and_parts}
use Rattle.std.proofs.lemmas.List.{append-nil}
use Rattle.std.proofs.lemmas.List.Concat.{flat_map-append}
use Rattle.rdf_core.specs.declared.term.Term.{Term}
use Rattle.rdf_core.specs.QuadParts.{QuadParts}
use Rattle.rdf_core.proofs.TermLaws.{term_eq, term_decides}
use Rattle.algebra_model.specs.Algebra.{Algebra, Pattern, Join, LeftJoin, Union, Minus, Graph, Filter, Extend, Project, Distinct, Table, each_graph}
use Rattle.algebra_model.specs.Bgp.{Triple, bgp, every_map, terms}
use Rattle.algebra_model.specs.Closed.{is_closed}
use Rattle.algebra_model.specs.Dataset.{graph, names}
use Rattle.algebra_model.specs.Eval.{named, in_graphs, eval}
use Rattle.algebra_model.specs.Expression.{val, holds}
use Rattle.algebra_model.specs.Operators.{join, merges, left_join, minus, extend, project, distinct}
use Rattle.algebra_model.specs.Solution.{Solution, agree, bound_or, is_compatible, merge}

-- ---- the active graph of a closed tree

-- a map that uses no place does not depend on the terms
every_map-unused : {T : Type 0} (ts us : List T) (n : ℕ) → every_map (λ _. false) ts n ≡ every_map (λ _. false) us n
every_map-unused ts us zero = refl
every_map-unused ts us (suc n) = ap (λ r. flat_map (λ x. map (λ μ. x ∷ μ) r) (None ∷ [])) (every_map-unused ts us n)

bgp-empty : (w l : ℕ) (G H : List (Triple Term)) → bgp term_eq w l [] G ≡ bgp term_eq w l [] H
bgp-empty w l G H = ap (λ r. map (take w) (filter (λ _. true) r)) (every_map-unused (terms term_eq G) (terms term_eq H) (w + l))

module _ (w : ℕ) (D : List QuadParts) where
  pub closed-eval : (g h : Option Term) (A : Algebra) → is_closed A ≡ true → eval w D g A ≡ eval w D h A
  closed-eval g h (Pattern labels []) c = bgp-empty w labels (graph D g) (graph D h)
  closed-eval g h (Pattern labels (t ∷ P)) c = absurd (false≢true c)
  closed-eval g h (Join A B) c = let p = and_parts (is_closed A) (is_closed B) c in λ i. join term_eq (closed-eval g h A p.0 i) (closed-eval g h B p.1 i)
  closed-eval g h (LeftJoin A B e) c = let p = and_parts (is_closed A) (is_closed B) c in λ i. left_join term_eq (holds e) (closed-eval g h A p.0 i) (closed-eval g h B p.1 i)
  closed-eval g h (Union A B) c = let p = and_parts (is_closed A) (is_closed B) c in λ i. closed-eval g h A p.0 i ++ closed-eval g h B p.1 i
  closed-eval g h (Minus A B) c = let p = and_parts (is_closed A) (is_closed B) c in λ i. minus term_eq (closed-eval g h A p.0 i) (closed-eval g h B p.1 i)
  closed-eval g h (Graph i A) c = refl
  closed-eval g h (Filter e A) c = ap (filter (holds e)) (closed-eval g h A c)
  closed-eval g h (Extend v e A) c = ap (extend v (val e)) (closed-eval g h A c)
  closed-eval g h (Project vs A) c = ap (project vs) (closed-eval g h A c)
  closed-eval g h (Distinct A) c = ap (distinct term_eq) (closed-eval g h A c)
  closed-eval g h (Table vs rows) c = refl

-- ---- two merges, in either order

and_true : (b : Bool) → (b && true) ≡ b
and_true true = refl
and_true false = refl

crossed : (a b c d : Bool) → ((a && b) && (c && d)) ≡ ((a && c) && (b && d))
crossed true true c d = refl
crossed true false true d = refl
crossed true false false d = refl
crossed false b c d = refl

merge-nil : {T : Type 0} (μ : Solution T) → merge μ [] ≡ μ
merge-nil [] = refl
merge-nil (x ∷ μ) = refl

module _ {T : Type 0} (same : T → T → Bool) (decides : (x y : T) → Decides (same x y) (x ≡ y)) where
  same-sym : (x y : T) → same x y ≡ same y x
  same-sym x y = Rattle.std.specs.Cmp.both_ways (same x y) (same y x) (λ e. (decides y x).1 (sym ((decides x y).0 e))) (λ e. (decides x y).1 (sym ((decides y x).0 e)))

  agree-sym : (x y : Option T) → agree same x y ≡ agree same y x
  agree-sym None None = refl
  agree-sym None (Some y) = refl
  agree-sym (Some x) None = refl
  agree-sym (Some x) (Some y) = same-sym x y

  compatible-sym : (μ ν : Solution T) → is_compatible same μ ν ≡ is_compatible same ν μ
  compatible-sym [] [] = refl
  compatible-sym [] (y ∷ ν) = refl
  compatible-sym (x ∷ μ) [] = refl
  compatible-sym (x ∷ μ) (y ∷ ν) = λ i. agree-sym x y i && compatible-sym μ ν i

  compatible-nil : (μ : Solution T) → is_compatible same μ [] ≡ true
  compatible-nil [] = refl
  compatible-nil (x ∷ μ) = refl

  bound-sym : (x y : Option T) → agree same x y ≡ true → bound_or x y ≡ bound_or y x
  bound-sym None None h = refl
  bound-sym None (Some y) h = refl
  bound-sym (Some x) None h = refl
  bound-sym (Some x) (Some y) h = ap Some ((decides x y).0 h)

  pub merge-sym : (μ ν : Solution T) → is_compatible same μ ν ≡ true → merge μ ν ≡ merge ν μ
  merge-sym [] [] h = refl
  merge-sym [] (y ∷ ν) h = refl
  merge-sym (x ∷ μ) [] h = refl
  merge-sym (x ∷ μ) (y ∷ ν) h = let p = and_parts _ _ h in λ i. bound-sym x y p.0 i ∷ merge-sym μ ν p.1 i

  agree-two : (x y z : Option T) → (agree same x y && agree same (bound_or x y) z) ≡ (agree same x z && agree same (bound_or x z) y)
  agree-two None y z = agree-sym y z
  agree-two (Some x) None None = refl
  agree-two (Some x) None (Some z) = sym (and_true (same x z))
  agree-two (Some x) (Some y) None = and_true (same x y)
  agree-two (Some x) (Some y) (Some z) = swapped (same x y) (same x z)
    where
      swapped : (a b : Bool) → (a && b) ≡ (b && a)
      swapped true true = refl
      swapped true false = refl
      swapped false true = refl
      swapped false false = refl

  bound-two : (x y z : Option T) → agree same x y ≡ true → agree same (bound_or x y) z ≡ true → bound_or (bound_or x y) z ≡ bound_or (bound_or x z) y
  bound-two None y z h k = bound-sym y z k
  bound-two (Some x) y z h k = refl

  compatible-two : (μ κ ν : Solution T) → (is_compatible same μ κ && is_compatible same (merge μ κ) ν) ≡ (is_compatible same μ ν && is_compatible same (merge μ ν) κ)
  compatible-two [] κ ν = compatible-sym κ ν
  compatible-two (x ∷ μ) [] ν = sym (ap (λ b. is_compatible same (x ∷ μ) ν && b) (compatible-nil (merge (x ∷ μ) ν)) ∙ and_true (is_compatible same (x ∷ μ) ν))
  compatible-two (x ∷ μ) (y ∷ κ) [] = and_true (is_compatible same (x ∷ μ) (y ∷ κ))
  compatible-two (x ∷ μ) (y ∷ κ) (z ∷ ν) =
      crossed (agree same x y) (is_compatible same μ κ) (agree same (bound_or x y) z) (is_compatible same (merge μ κ) ν)
      ∙ (λ i. agree-two x y z i && compatible-two μ κ ν i)
      ∙ sym (crossed (agree same x z) (is_compatible same μ ν) (agree same (bound_or x z) y) (is_compatible same (merge μ ν) κ))

  merge-two : (μ κ ν : Solution T) → is_compatible same μ κ ≡ true → is_compatible same (merge μ κ) ν ≡ true → merge (merge μ κ) ν ≡ merge (merge μ ν) κ
  merge-two [] κ ν h k = merge-sym κ ν k
  merge-two (x ∷ μ) [] ν h k = sym (merge-nil (merge (x ∷ μ) ν))
  merge-two (x ∷ μ) (y ∷ κ) [] h k = refl
  merge-two (x ∷ μ) (y ∷ κ) (z ∷ ν) h k =
      let p = and_parts (agree same x y) (is_compatible same μ κ) h in
      let q = and_parts (agree same (bound_or x y) z) (is_compatible same (merge μ κ) ν) k in
      λ i. bound-two x y z p.0 q.0 i ∷ merge-two μ κ ν p.1 q.1 i

  -- ---- a join with one solution, before another join or after it

  module _ (μ ν : Solution T) where
    -- what one solution of the other side gives, in either order
    abbrev after : Solution T → List (Solution T)
    after κ = cond (is_compatible same μ κ && is_compatible same (merge μ κ) ν) (merge (merge μ κ) ν ∷ []) []

    abbrev before : Solution T → List (Solution T)
    before κ = cond (is_compatible same μ ν && is_compatible same (merge μ ν) κ) (merge (merge μ ν) κ ∷ []) []

    alike : (κ : Solution T) → after κ ≡ before κ
    alike κ = by (is_compatible same μ κ) (is_compatible same (merge μ κ) ν) (compatible-two μ κ ν) (merge-two μ κ ν)
      where
        by : (a b : Bool) → (a && b) ≡ (is_compatible same μ ν && is_compatible same (merge μ ν) κ) → (a ≡ true → b ≡ true → merge (merge μ κ) ν ≡ merge (merge μ ν) κ) → cond (a && b) (merge (merge μ κ) ν ∷ []) [] ≡ before κ
        by true true e m = (λ i. cond true (m refl refl i ∷ []) []) ∙ ap (λ b. cond b (merge (merge μ ν) κ ∷ []) []) e
        by true false e m = ap (λ b. cond b (merge (merge μ ν) κ ∷ []) []) e
        by false b e m = ap (λ b. cond b (merge (merge μ ν) κ ∷ []) []) e

    joined-after : (K : List (Solution T)) → join same (merges same μ K) (ν ∷ []) ≡ flat_map after K
    joined-after [] = refl
    joined-after (κ ∷ K) = by (is_compatible same μ κ) (is_compatible same (merge μ κ) ν) (joined-after K)
      where
        by : (a b : Bool) → join same (merges same μ K) (ν ∷ []) ≡ flat_map after K
            → flat_map (λ τ. merges same τ (ν ∷ [])) (map (merge μ) (cond a (κ ∷ filter (is_compatible same μ) K) (filter (is_compatible same μ) K))) ≡ cond (a && is_compatible same (merge μ κ) ν) (merge (merge μ κ) ν ∷ []) [] ++ flat_map after K
        by true b e = here (is_compatible same (merge μ κ) ν) e
          where
            here : (b : Bool) → join same (merges same μ K) (ν ∷ []) ≡ flat_map after K
                → map (merge (merge μ κ)) (cond b (ν ∷ []) []) ++ join same (merges same μ K) (ν ∷ []) ≡ cond b (merge (merge μ κ) ν ∷ []) [] ++ flat_map after K
            here true e = ap (λ r. merge (merge μ κ) ν ∷ r) e
            here false e = e
        by false b e = e

    joined-before : (K : List (Solution T)) → join same (merges same μ (ν ∷ [])) K ≡ flat_map before K
    joined-before K = by (is_compatible same μ ν)
      where
        each : (K : List (Solution T)) → merges same (merge μ ν) K ≡ flat_map (λ κ. cond (is_compatible same (merge μ ν) κ) (merge (merge μ ν) κ ∷ []) []) K
        each [] = refl
        each (κ ∷ K) = here (is_compatible same (merge μ ν) κ) (each K)
          where
            here : (b : Bool) → merges same (merge μ ν) K ≡ flat_map (λ κ. cond (is_compatible same (merge μ ν) κ) (merge (merge μ ν) κ ∷ []) []) K
                → map (merge (merge μ ν)) (cond b (κ ∷ filter (is_compatible same (merge μ ν)) K) (filter (is_compatible same (merge μ ν)) K))
                ≡ cond b (merge (merge μ ν) κ ∷ []) [] ++ flat_map (λ κ. cond (is_compatible same (merge μ ν) κ) (merge (merge μ ν) κ ∷ []) []) K
            here true e = ap (λ r. merge (merge μ ν) κ ∷ r) e
            here false e = e

        none : (K : List (Solution T)) → [] ≡ flat_map (λ (κ : Solution T). cond false (merge (merge μ ν) κ ∷ []) []) K
        none [] = refl
        none (κ ∷ K) = none K

        by : (a : Bool) → flat_map (λ τ. merges same τ K) (map (merge μ) (cond a (ν ∷ []) [])) ≡ flat_map (λ κ. cond (a && is_compatible same (merge μ ν) κ) (merge (merge μ ν) κ ∷ []) []) K
        by true = append-nil (merges same (merge μ ν) K) ∙ each K
        by false = none K

    one-swap : (K : List (Solution T)) → join same (merges same μ K) (ν ∷ []) ≡ join same (merges same μ (ν ∷ [])) K
    one-swap K = joined-after K ∙ (λ i. flat_map (λ κ. alike κ i) K) ∙ sym (joined-before K)

  join-swap : (X K : List (Solution T)) (ν : Solution T) → join same (join same X K) (ν ∷ []) ≡ join same (join same X (ν ∷ [])) K
  join-swap [] K ν = refl
  join-swap (μ ∷ X) K ν =
      flat_map-append (λ τ. merges same τ (ν ∷ [])) (merges same μ K) (join same X K)
      ∙ (λ i. one-swap μ ν K i ++ join-swap X K ν i)
      ∙ sym (flat_map-append (λ τ. merges same τ K) (merges same μ (ν ∷ [])) (join same X (ν ∷ [])))

  -- one solution may be on either side
  join-one : (K : List (Solution T)) (ν : Solution T) → join same K (ν ∷ []) ≡ join same (ν ∷ []) K
  join-one K ν = by K ∙ sym (append-nil (merges same ν K))
    where
      by : (K : List (Solution T)) → join same K (ν ∷ []) ≡ merges same ν K
      by [] = refl
      by (κ ∷ K) = here (is_compatible same κ ν) (is_compatible same ν κ) (compatible-sym κ ν) (merge-sym κ ν) (by K)
        where
          here : (a b : Bool) → a ≡ b → (a ≡ true → merge κ ν ≡ merge ν κ) → join same K (ν ∷ []) ≡ merges same ν K
              → map (merge κ) (cond a (ν ∷ []) []) ++ join same K (ν ∷ []) ≡ map (merge ν) (cond b (κ ∷ filter (is_compatible same ν) K) (filter (is_compatible same ν) K))
          here true true e m i = λ j. m refl j ∷ i j
          here true false e m i = absurd (false≢true (sym e))
          here false true e m i = absurd (false≢true e)
          here false false e m i = i

  -- ---- a join after the names of the graphs

  module _ {I : Type 0} (K : List (Solution T)) where
    join-flat_map : (F : I → List (Solution T)) (is : List I) → flat_map (λ i. join same (F i) K) is ≡ join same (flat_map F is) K
    join-flat_map F [] = refl
    join-flat_map F (i ∷ is) = ap (λ r. join same (F i) K ++ r) (join-flat_map F is) ∙ sym (flat_map-append (λ τ. merges same τ K) (F i) (flat_map F is))

    pub join-outside : (P : I → List (Solution T)) (N : I → Solution T) (is : List I)
        → flat_map (λ i. join same (join same (P i) K) (N i ∷ [])) is ≡ join same (flat_map (λ i. join same (P i) (N i ∷ [])) is) K
    join-outside P N is = (λ j. flat_map (λ i. join-swap (P i) K (N i) j) is) ∙ join-flat_map (λ i. join same (P i) (N i ∷ [])) is

    pub names-outside : (N : I → Solution T) (is : List I) → flat_map (λ i. join same K (N i ∷ [])) is ≡ join same (flat_map (λ i. N i ∷ []) is) K
    names-outside N is = (λ j. flat_map (λ i. join-one K (N i) j) is) ∙ join-flat_map (λ i. N i ∷ []) is

-- ---- closed trees under GRAPH with a variable

module _ (w : ℕ) (D : List QuadParts) (v : ℕ) where
  abbrev in_each : Algebra → List (Solution Term)
  in_each A = in_graphs w D (each_graph v) (λ h. eval w D h A)

  -- a closed tree is joined with the names
  pub closed-in_each : (C : Algebra) → is_closed C ≡ true → in_each C ≡ join term_eq (flat_map (named w v) (names D)) (eval w D None C)
  closed-in_each C c =
      (λ j. flat_map (λ i. join term_eq (closed-eval w D (Some i) None C c j) (named w v i)) (names D))
      ∙ names-outside term_eq term_decides (eval w D None C) (λ i. Rattle.std.specs.Prelude.set (Rattle.std.specs.Prelude.replicate w None) v (Some i)) (names D)

  -- a join with a closed tree is a join after the names
  pub join-in_each : (A C : Algebra) → is_closed C ≡ true → in_each (Join A C) ≡ join term_eq (in_each A) (eval w D None C)
  join-in_each A C c =
      (λ j. flat_map (λ i. join term_eq (join term_eq (eval w D (Some i) A) (closed-eval w D (Some i) None C c j)) (named w v i)) (names D))
      ∙ join-outside term_eq term_decides (eval w D None C) (λ i. eval w D (Some i) A) (λ i. Rattle.std.specs.Prelude.set (Rattle.std.specs.Prelude.replicate w None) v (Some i)) (names D)
