-- Under GRAPH with a variable, a join may be applied after the solutions of the graphs are joined with
-- the names of the graphs: solutions of different graphs bind the variable to different names.
use Rattle.std.proofs.Common.{◌≡◌, ℕ, zero, suc, ◌<◌, Bool, true, false, cond, ◌&&◌, List, [], ◌∷◌, ◌++◌, get_or, map, filter, flat_map, set, replicate, Option, None, Some, Decides, refl, sym, ap, ◌∙◌, subst, arith}
use Rattle.std.specs.List.{AllByRecursion, IsDistinct}
use Rattle.std.proofs.lemmas.Bool.{and_parts}
use Rattle.std.proofs.lemmas.List.{append-nil, map-append, get_or-set_same, length-replicate}
use Rattle.std.proofs.lemmas.List.Concat.{flat_map-append}
use Rattle.std.proofs.lemmas.List.Elements.{filter-append}
use Rattle.algebra_model.specs.Eval.{named}
use Rattle.algebra_model.specs.Operators.{join, merges}
use Rattle.algebra_model.specs.Renaming.{Each}
use Rattle.algebra_model.specs.Solution.{Solution, agree, bound_or, is_compatible, merge}
use Rattle.algebra_model.proofs.ClosedLaws.{join-outside}
use Rattle.algebra_model.proofs.KeyLaws.{agree_at}
use Rattle.algebra_model.proofs.RangeLaws.{Each-append}
use Rattle.sparql_eval.proofs.GraphSteps.{symmetric}

module _ {T : Type 0} (same : T → T → Bool) (decides : (x y : T) → Decides (same x y) (x ≡ y)) where
  -- ---- a solution that binds all that another one binds

  -- the cell has the term, if there is one
  abbrev Has : Option T → Option T → Type 0
  Has x None = Unit {0}
  Has x (Some z) = x ≡ Some z

  -- the first solution binds all that the second one binds
  abbrev Covers : Solution T → Solution T → Type 0
  Covers σ [] = Unit {0}
  Covers [] (z ∷ κ) = ⊥
  Covers (x ∷ σ) (z ∷ κ) = Has x z × Covers σ κ

  cell_has : (x z : Option T) → agree same x z ≡ true → Has (bound_or x z) z
  cell_has None None h = tt
  cell_has (Some x) None h = tt
  cell_has None (Some z) h = refl
  cell_has (Some x) (Some z) h = ap Some ((decides x z).0 h)

  itself_has : (z : Option T) → Has z z
  itself_has None = tt
  itself_has (Some z) = refl

  covers_itself : (κ : Solution T) → Covers κ κ
  covers_itself [] = tt
  covers_itself (z ∷ κ) = (itself_has z, covers_itself κ)

  covers_nil : (σ : Solution T) → Covers σ []
  covers_nil [] = tt
  covers_nil (x ∷ σ) = tt

  merged_covers : (μ κ : Solution T) → is_compatible same μ κ ≡ true → Covers (merge μ κ) κ
  merged_covers [] κ h = covers_itself κ
  merged_covers (x ∷ μ) [] h = tt
  merged_covers (x ∷ μ) (z ∷ κ) h = let p = and_parts (agree same x z) (is_compatible same μ κ) h in (cell_has x z p.0, merged_covers μ κ p.1)

  covers_at : (v : ℕ) (z : T) (σ κ : Solution T) → Covers σ κ → get_or κ v None ≡ Some z → get_or σ v None ≡ Some z
  covers_at v z σ [] c e = cc
  covers_at v z [] (y ∷ κ) c e = absurd c
  covers_at zero z (x ∷ σ) (y ∷ κ) c e = subst (Has x) e c.0
  covers_at (suc v) z (x ∷ σ) (y ∷ κ) c e = covers_at v z σ κ c.1 e

  -- ---- a merge with the other one changes nothing

  itself : (z : T) → same z z ≡ true
  itself z = (decides z z).1 refl

  twice : (b : Bool) → (b && b) ≡ b
  twice true = refl
  twice false = refl

  crossed : (a b c d : Bool) → ((a && b) && (c && d)) ≡ ((a && c) && (b && d))
  crossed true true c d = refl
  crossed true false true d = refl
  crossed true false false d = refl
  crossed false b c d = refl

  cell_agrees : (x z : Option T) → Has x z → agree same x z ≡ true
  cell_agrees None None h = refl
  cell_agrees (Some x) None h = refl
  cell_agrees x (Some z) h = subst (λ u. agree same u (Some z) ≡ true) (sym h) (itself z)

  cell_kept : (x z : Option T) → Has x z → bound_or x z ≡ x
  cell_kept None None h = refl
  cell_kept (Some x) None h = refl
  cell_kept x (Some z) h = subst (λ u. bound_or u (Some z) ≡ u) (sym h) refl

  cell_absorbs : (x z y : Option T) → Has x z → (agree same y z && agree same x (bound_or y z)) ≡ agree same x y
  cell_absorbs x None None h = refl
  cell_absorbs x None (Some y) h = refl
  cell_absorbs x (Some z) None h = cell_agrees x (Some z) h ∙ sym (subst (λ u. agree same u None ≡ true) (sym h) refl)
  cell_absorbs x (Some z) (Some y) h = subst (λ u. (same y z && agree same u (Some y)) ≡ agree same u (Some y)) (sym h) (ap (λ b. b && same z y) (symmetric same decides y z) ∙ twice (same z y))

  cell_merges : (x z y : Option T) → Has x z → bound_or x (bound_or y z) ≡ bound_or x y
  cell_merges x None None h = refl
  cell_merges x None (Some y) h = refl
  cell_merges x (Some z) y h = subst (λ u. bound_or u (bound_or y (Some z)) ≡ bound_or u y) (sym h) refl

  merge_nil : (ν : Solution T) → merge ν [] ≡ ν
  merge_nil [] = refl
  merge_nil (y ∷ ν) = refl

  compatible_nil : (ν : Solution T) → is_compatible same ν [] ≡ true
  compatible_nil [] = refl
  compatible_nil (y ∷ ν) = refl

  covers_agrees : (σ κ : Solution T) → Covers σ κ → is_compatible same σ κ ≡ true
  covers_agrees σ [] c = compatible_nil σ
  covers_agrees [] (z ∷ κ) c = absurd c
  covers_agrees (x ∷ σ) (z ∷ κ) c = λ i. cell_agrees x z c.0 i && covers_agrees σ κ c.1 i

  covers_kept : (σ κ : Solution T) → Covers σ κ → merge σ κ ≡ σ
  covers_kept σ [] c = merge_nil σ
  covers_kept [] (z ∷ κ) c = absurd c
  covers_kept (x ∷ σ) (z ∷ κ) c = λ i. cell_kept x z c.0 i ∷ covers_kept σ κ c.1 i

  absorbs : (σ κ ν : Solution T) → Covers σ κ → (is_compatible same ν κ && is_compatible same σ (merge ν κ)) ≡ is_compatible same σ ν
  absorbs σ [] ν c = λ i. compatible_nil ν i && is_compatible same σ (merge_nil ν i)
  absorbs [] (z ∷ κ) ν c = absurd c
  absorbs (x ∷ σ) (z ∷ κ) [] c = covers_agrees (x ∷ σ) (z ∷ κ) c
  absorbs (x ∷ σ) (z ∷ κ) (y ∷ ν) c =
      crossed (agree same y z) (is_compatible same ν κ) (agree same x (bound_or y z)) (is_compatible same σ (merge ν κ))
      ∙ (λ i. cell_absorbs x z y c.0 i && absorbs σ κ ν c.1 i)

  absorbed : (σ κ ν : Solution T) → Covers σ κ → merge σ (merge ν κ) ≡ merge σ ν
  absorbed σ [] ν c = ap (merge σ) (merge_nil ν)
  absorbed [] (z ∷ κ) ν c = absurd c
  absorbed (x ∷ σ) (z ∷ κ) [] c = covers_kept (x ∷ σ) (z ∷ κ) c
  absorbed (x ∷ σ) (z ∷ κ) (y ∷ ν) c = λ i. cell_merges x z y c.0 i ∷ absorbed σ κ ν c.1 i

  -- ---- joins with the solutions of the same graph

  covers_all : (κ : Solution T) (A : List (Solution T)) → Each (λ σ. Covers σ κ) (join same A (κ ∷ []))
  covers_all κ [] = tt
  covers_all κ (μ ∷ A) = by (is_compatible same μ κ) refl (covers_all κ A)
    where
      by : (b : Bool) → is_compatible same μ κ ≡ b → Each (λ σ. Covers σ κ) (join same A (κ ∷ [])) → Each (λ σ. Covers σ κ) (map (merge μ) (cond b (κ ∷ []) []) ++ join same A (κ ∷ []))
      by true e i = (merged_covers μ κ e, i)
      by false e i = i

  abbrev merges_with : (σ ν : Solution T) → List (Solution T) → Bool → List (Solution T)
  merges_with σ ν B b = map (merge σ) (cond b (ν ∷ filter (is_compatible same σ) B) (filter (is_compatible same σ) B))

  merges_after : (σ κ : Solution T) → Covers σ κ → (B : List (Solution T)) → merges same σ (join same B (κ ∷ [])) ≡ merges same σ B
  merges_after σ κ c [] = refl
  merges_after σ κ c (ν ∷ B) = by (is_compatible same ν κ) (absorbs σ κ ν c) (merges_after σ κ c B)
    where
      first : (b : Bool) → merges same σ (join same B (κ ∷ [])) ≡ merges same σ B → merges_with σ (merge ν κ) (join same B (κ ∷ [])) b ≡ merges_with σ ν B b
      first true m = λ i. absorbed σ κ ν c i ∷ m i
      first false m = m

      by : (a : Bool) → (a && is_compatible same σ (merge ν κ)) ≡ is_compatible same σ ν → merges same σ (join same B (κ ∷ [])) ≡ merges same σ B
          → merges same σ (map (merge ν) (cond a (κ ∷ []) []) ++ join same B (κ ∷ [])) ≡ merges same σ (ν ∷ B)
      by true e m = first (is_compatible same σ (merge ν κ)) m ∙ ap (merges_with σ ν B) e
      by false e m = m ∙ ap (merges_with σ ν B) e

  -- the joins of two lists are the same, if the merges with each solution are
  join_alike : (P : Solution T → Type 0) (X Y : List (Solution T)) → ((σ : Solution T) → P σ → merges same σ X ≡ merges same σ Y) → (L : List (Solution T)) → Each P L → join same L X ≡ join same L Y
  join_alike P X Y so [] h = refl
  join_alike P X Y so (σ ∷ L) h = λ i. so σ h.0 i ++ join_alike P X Y so L h.1 i

  joined_one : (A B : List (Solution T)) (κ : Solution T) → join same (join same A B) (κ ∷ []) ≡ join same (join same A (κ ∷ [])) (join same B (κ ∷ []))
  joined_one A B κ =
      sym (append-nil (join same (join same A B) (κ ∷ []))) ∙ join-outside same decides B (λ (u : Unit {0}). A) (λ (u : Unit {0}). κ) (tt ∷ [])
      ∙ ap (λ (l : List (Solution T)). join same l B) (append-nil (join same A (κ ∷ [])))
      ∙ sym (join_alike (λ σ. Covers σ κ) (join same B (κ ∷ [])) B (λ σ c. merges_after σ κ c B) (join same A (κ ∷ [])) (covers_all κ A))

  -- ---- solutions of different graphs

  merges_none : (σ : Solution T) (L : List (Solution T)) → Each (λ τ. is_compatible same σ τ ≡ false) L → merges same σ L ≡ []
  merges_none σ [] h = refl
  merges_none σ (τ ∷ L) h = (λ i. map (merge σ) (cond (h.0 i) (τ ∷ filter (is_compatible same σ) L) (filter (is_compatible same σ) L))) ∙ merges_none σ L h.1

  merges_both : (σ : Solution T) (X Y : List (Solution T)) → merges same σ (X ++ Y) ≡ merges same σ X ++ merges same σ Y
  merges_both σ X Y = ap (map (merge σ)) (filter-append (is_compatible same σ) X Y) ∙ map-append (merge σ) (filter (is_compatible same σ) X) (filter (is_compatible same σ) Y)

  each_of : (P Q : Solution T → Type 0) → ((μ : Solution T) → P μ → Q μ) → (L : List (Solution T)) → Each P L → Each Q L
  each_of P Q so [] h = tt
  each_of P Q so (μ ∷ L) h = (so μ h.0, each_of P Q so L h.1)

  module _ (w v : ℕ) (low : v < w) where
    abbrev name_of : T → Solution T
    name_of i = set (replicate w None) v (Some i)

    bound_to : (i : T) (σ : Solution T) → Covers σ (name_of i) → get_or σ v None ≡ Some i
    bound_to i σ c = covers_at v i σ (name_of i) c (get_or-set_same (replicate w None) v (Some i) None (let l = length-replicate {A = Option T} w None in omega (arith, l, low)))

    apart : (i j : T) → same i j ≡ false → (σ τ : Solution T) → Covers σ (name_of i) → Covers τ (name_of j) → is_compatible same σ τ ≡ false
    apart i j d σ τ c k = by (is_compatible same σ τ) refl
      where
        by : (b : Bool) → is_compatible same σ τ ≡ b → b ≡ false
        by false h = refl
        by true h = sym (agree_at same σ τ h v) ∙ (λ n. agree same (bound_to i σ c n) (bound_to j τ k n)) ∙ d

    module _ (A B : T → List (Solution T)) where
      abbrev in_each : (T → List (Solution T)) → List T → List (Solution T)
      in_each C is = flat_map (λ i. join same (C i) (named w v i)) is

      -- no solution of the other graphs is compatible with one of this graph
      after_apart : (i : T) (σ : Solution T) → Covers σ (name_of i) → (is : List T) → AllByRecursion (λ j. same i j ≡ false) is → Each (λ τ. is_compatible same σ τ ≡ false) (in_each B is)
      after_apart i σ c [] h = tt
      after_apart i σ c (j ∷ is) h =
          Each-append (λ τ. is_compatible same σ τ ≡ false) (join same (B j) (named w v j)) (in_each B is)
          (each_of (λ τ. Covers τ (name_of j)) (λ τ. is_compatible same σ τ ≡ false) (λ τ k. apart i j h.0 σ τ c k) (join same (B j) (named w v j)) (covers_all (name_of j) (B j)))
          (after_apart i σ c is h.1)

      before_apart : (i : T) (is : List T) → AllByRecursion (λ j. same i j ≡ false) is → Each (λ τ. merges same τ (join same (B i) (named w v i)) ≡ []) (in_each A is)
      before_apart i [] h = tt
      before_apart i (j ∷ is) h =
          let X = join same (B i) (named w v i) in
          Each-append (λ τ. merges same τ X ≡ []) (join same (A j) (named w v j)) (in_each A is)
          (each_of (λ τ. Covers τ (name_of j)) (λ τ. merges same τ X ≡ [])
          (λ τ k. merges_none τ X (each_of (λ σ. Covers σ (name_of i)) (λ σ. is_compatible same τ σ ≡ false) (λ σ c. apart j i (symmetric same decides j i ∙ h.0) τ σ k c) X (covers_all (name_of i) (B i))))
          (join same (A j) (named w v j)) (covers_all (name_of j) (A j)))
          (before_apart i is h.1)

      pub joined_each : (is : List T) → IsDistinct same is → in_each (λ i. join same (A i) (B i)) is ≡ join same (in_each A is) (in_each B is)
      unfolding IsDistinct
      joined_each [] h = refl
      joined_each (i ∷ is) h =
          let X = join same (A i) (named w v i) in
          let Y = join same (B i) (named w v i) in
          let XS = in_each A is in
          let YS = in_each B is in
          let here : join same X Y ≡ join same X (Y ++ YS) =
          join_alike (λ σ. Covers σ (name_of i)) Y (Y ++ YS)
          (λ σ c. sym (merges_both σ Y YS ∙ ap (λ l. merges same σ Y ++ l) (merges_none σ YS (after_apart i σ c is h.0)) ∙ append-nil (merges same σ Y))) X (covers_all (name_of i) (A i)) in
          let later : join same XS YS ≡ join same XS (Y ++ YS) =
          join_alike (λ σ. merges same σ Y ≡ []) YS (Y ++ YS)
          (λ σ e. sym (merges_both σ Y YS ∙ ap (λ l. l ++ merges same σ YS) e)) XS (before_apart i is h.0) in
          (λ j. joined_one (A i) (B i) (name_of i) j ++ joined_each is h.1 j) ∙ (λ j. here j ++ later j) ∙ sym (flat_map-append (λ σ. merges same σ (Y ++ YS)) X XS)
