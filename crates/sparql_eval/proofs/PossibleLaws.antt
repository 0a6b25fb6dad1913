-- A join needs only the solutions that are compatible with one of the other side. If each of these
-- binds the variable of a GRAPH, only the graphs that they name have such solutions.
use Rattle.std.proofs.Common.{◌≡◌, ℕ, zero, suc, ◌<◌, Bool, true, false, cond, not, ◌&&◌, ◌||◌, List, [], ◌∷◌, ◌++◌, get_or, map, filter, flat_map, set, replicate, Option, None, Some, Decides, is_some, refl, sym, ap, ◌∙◌, subst, arith}
use Rattle.std.specs.List.{list_all, list_any}
use Rattle.std.specs.Option.{option_eq}
use Rattle.std.proofs.lemmas.Bool.{false≢true, and_parts}
use Rattle.std.proofs.lemmas.List.Elements.{filter-append}
use Rattle.algebra_model.specs.Operators.{join, merges, left_join, minus, share}
use Rattle.sparql_eval.specs.Possible.{bind_all, is_named, meets_some}
use Rattle.algebra_model.specs.Renaming.{Each}
use Rattle.algebra_model.specs.Solution.{Solution, agree, bound_or, is_compatible, merge}
use Rattle.algebra_model.proofs.KeyLaws.{agree_at}

-- ---- solutions that no solution of the other side is compatible with

module _ {T : Type 0} (same : T → T → Bool) (test : Solution T → Bool) where
  -- the test is true of each solution that is compatible with this one
  abbrev pub Covers : Solution T → Type 0
  Covers μ = (ν : Solution T) → is_compatible same μ ν ≡ true → test ν ≡ true

  apart : (μ ν : Solution T) → Covers μ → test ν ≡ false → is_compatible same μ ν ≡ false
  apart μ ν c e = by (is_compatible same μ ν) refl
    where
      by : (b : Bool) → is_compatible same μ ν ≡ b → b ≡ false
      by true h = sym (c ν h) ∙ e
      by false h = refl

  merges_tested : (μ : Solution T) → Covers μ → (B : List (Solution T)) → merges same μ (filter test B) ≡ merges same μ B
  merges_tested μ c [] = refl
  merges_tested μ c (ν ∷ B) = by (test ν) refl (merges_tested μ c B)
    where
      first : (b : Bool) → is_compatible same μ ν ≡ b → (X : List (Solution T)) → merges same μ (ν ∷ X) ≡ cond b (merge μ ν ∷ merges same μ X) (merges same μ X)
      first b e X = ap (λ (k : Bool). map (merge μ) (cond k (ν ∷ filter (is_compatible same μ) X) (filter (is_compatible same μ) X))) e ∙ shape b
        where
          shape : (k : Bool) → map (merge μ) (cond k (ν ∷ filter (is_compatible same μ) X) (filter (is_compatible same μ) X)) ≡ cond k (merge μ ν ∷ merges same μ X) (merges same μ X)
          shape true = refl
          shape false = refl

      both : (b : Bool) → is_compatible same μ ν ≡ b → merges same μ (filter test B) ≡ merges same μ B → merges same μ (ν ∷ filter test B) ≡ merges same μ (ν ∷ B)
      both b e i = first b e (filter test B) ∙ ap (λ (X : List (Solution T)). cond b (merge μ ν ∷ X) X) i ∙ sym (first b e B)

      by : (b : Bool) → test ν ≡ b → merges same μ (filter test B) ≡ merges same μ B → merges same μ (filter test (ν ∷ B)) ≡ merges same μ (ν ∷ B)
      by true e i = ap (λ (k : Bool). merges same μ (cond k (ν ∷ filter test B) (filter test B))) e ∙ both (is_compatible same μ ν) refl i
      by false e i =
          ap (λ (k : Bool). merges same μ (cond k (ν ∷ filter test B) (filter test B))) e ∙ i
          ∙ sym (first false (apart μ ν c e) B)

  all_tested : (p : Solution T → Bool) → ((ν : Solution T) → test ν ≡ false → p ν ≡ true) → (B : List (Solution T)) → list_all p (filter test B) ≡ list_all p B
  all_tested p out [] = refl
  all_tested p out (ν ∷ B) = by (test ν) refl (all_tested p out B)
    where
      by : (b : Bool) → test ν ≡ b → list_all p (filter test B) ≡ list_all p B → list_all p (filter test (ν ∷ B)) ≡ (p ν && list_all p B)
      by true e i = ap (λ (k : Bool). list_all p (cond k (ν ∷ filter test B) (filter test B))) e ∙ ap (λ (b : Bool). p ν && b) i
      by false e i = ap (λ (k : Bool). list_all p (cond k (ν ∷ filter test B) (filter test B))) e ∙ i ∙ sym (ap (λ (b : Bool). b && list_all p B) (out ν e))

  filter_each : (p q : Solution T → Bool) (L : List (Solution T)) → Each (λ μ. p μ ≡ q μ) L → filter p L ≡ filter q L
  filter_each p q [] h = refl
  filter_each p q (μ ∷ L) h = λ i. cond (h.0 i) (μ ∷ filter_each p q L h.1 i) (filter_each p q L h.1 i)

  each_of : (P Q : Solution T → Type 0) → ((μ : Solution T) → P μ → Q μ) → (L : List (Solution T)) → Each P L → Each Q L
  each_of P Q so [] h = tt
  each_of P Q so (μ ∷ L) h = (so μ h.0, each_of P Q so L h.1)

  pub join_tested : (L B : List (Solution T)) → Each Covers L → join same L (filter test B) ≡ join same L B
  join_tested [] B c = refl
  join_tested (μ ∷ L) B c = λ i. merges_tested μ c.0 B i ++ join_tested L B c.1 i

  pub left_join_tested : (keeps : Solution T → Bool) (L B : List (Solution T)) → Each Covers L → left_join same keeps L (filter test B) ≡ left_join same keeps L B
  left_join_tested keeps L B c =
      let out : (μ : Solution T) → Covers μ → list_all (λ ν. not (is_compatible same μ ν && keeps (merge μ ν))) (filter test B) ≡ list_all (λ ν. not (is_compatible same μ ν && keeps (merge μ ν))) B =
      λ μ k. all_tested (λ ν. not (is_compatible same μ ν && keeps (merge μ ν))) (λ ν e. ap (λ (b : Bool). not (b && keeps (merge μ ν))) (apart μ ν k e)) B in
      λ i. filter keeps (join_tested L B c i)
      ++ filter_each (λ μ. list_all (λ ν. not (is_compatible same μ ν && keeps (merge μ ν))) (filter test B)) (λ μ. list_all (λ ν. not (is_compatible same μ ν && keeps (merge μ ν))) B) L
      (each_of Covers (λ μ. list_all (λ ν. not (is_compatible same μ ν && keeps (merge μ ν))) (filter test B) ≡ list_all (λ ν. not (is_compatible same μ ν && keeps (merge μ ν))) B) out L c) i

  pub minus_tested : (L B : List (Solution T)) → Each Covers L → minus same L (filter test B) ≡ minus same L B
  minus_tested L B c =
      filter_each (λ μ. list_all (λ ν. not (is_compatible same μ ν) || not (share μ ν)) (filter test B)) (λ μ. list_all (λ ν. not (is_compatible same μ ν) || not (share μ ν)) B) L
      (each_of Covers (λ μ. list_all (λ ν. not (is_compatible same μ ν) || not (share μ ν)) (filter test B) ≡ list_all (λ ν. not (is_compatible same μ ν) || not (share μ ν)) B)
      (λ μ k. all_tested (λ ν. not (is_compatible same μ ν) || not (share μ ν)) (λ ν e. ap (λ (b : Bool). not b || not (share μ ν)) (apart μ ν k e)) B) L c)

-- each of the solutions covers what is compatible with it
module _ {T : Type 0} (same : T → T → Bool) where
  or_true : (a : Bool) → (a || true) ≡ true
  or_true true = refl
  or_true false = refl

  pub covered : (L : List (Solution T)) → Each (Covers same (meets_some same L)) L
  covered [] = tt
  covered (μ ∷ L) = (λ ν h. ap (λ (b : Bool). b || meets_some same L ν) h, wider (covered L))
    where
      widen : (M : List (Solution T)) → Each (Covers same (meets_some same L)) M → Each (Covers same (meets_some same (μ ∷ L))) M
      widen [] h = tt
      widen (κ ∷ M) h = (λ ν k. ap (λ (b : Bool). is_compatible same μ ν || b) (h.0 ν k) ∙ or_true (is_compatible same μ ν), widen M h.1)

      wider : Each (Covers same (meets_some same L)) L → Each (Covers same (meets_some same (μ ∷ L))) L
      wider h = widen L h

-- ---- a merge meets what its parts meet

module _ {T : Type 0} (same : T → T → Bool) (decides : (x y : T) → Decides (same x y) (x ≡ y)) where
  agree_none : (z : Option T) → agree same z None ≡ true
  agree_none None = refl
  agree_none (Some z) = refl

  agree_left : (z x y : Option T) → agree same z (bound_or x y) ≡ true → agree same z x ≡ true
  agree_left z None y h = agree_none z
  agree_left z (Some x) y h = h

  agree_right : (z x y : Option T) → agree same x y ≡ true → agree same z (bound_or x y) ≡ true → agree same z y ≡ true
  agree_right z None y c h = h
  agree_right z (Some x) None c h = agree_none z
  agree_right z (Some x) (Some y) c h = subst (λ (u : T). agree same z (Some u) ≡ true) ((decides x y).0 c) h

  compatible_none : (κ : Solution T) → is_compatible same κ [] ≡ true
  compatible_none [] = refl
  compatible_none (z ∷ κ) = refl

  pub compatible_left : (κ μ ν : Solution T) → is_compatible same κ (merge μ ν) ≡ true → is_compatible same κ μ ≡ true
  compatible_left κ [] ν h = compatible_none κ
  compatible_left [] (x ∷ μ) ν h = refl
  compatible_left (z ∷ κ) (x ∷ μ) [] h = h
  compatible_left (z ∷ κ) (x ∷ μ) (y ∷ ν) h =
      let p = and_parts (agree same z (bound_or x y)) (is_compatible same κ (merge μ ν)) h in
      λ i. agree_left z x y p.0 i && compatible_left κ μ ν p.1 i

  pub compatible_right : (κ μ ν : Solution T) → is_compatible same μ ν ≡ true → is_compatible same κ (merge μ ν) ≡ true → is_compatible same κ ν ≡ true
  compatible_right κ [] ν c h = h
  compatible_right κ (x ∷ μ) [] c h = compatible_none κ
  compatible_right [] (x ∷ μ) (y ∷ ν) c h = refl
  compatible_right (z ∷ κ) (x ∷ μ) (y ∷ ν) c h =
      let q = and_parts (agree same x y) (is_compatible same μ ν) c in
      let p = and_parts (agree same z (bound_or x y)) (is_compatible same κ (merge μ ν)) h in
      λ i. agree_right z x y q.0 p.0 i && compatible_right κ μ ν q.1 p.1 i

  any_weaker : (p q : Solution T → Bool) → ((κ : Solution T) → p κ ≡ true → q κ ≡ true) → (L : List (Solution T)) → list_any p L ≡ true → list_any q L ≡ true
  any_weaker p q so [] h = h
  any_weaker p q so (κ ∷ L) h = by (p κ) refl h (any_weaker p q so L)
    where
      by : (b : Bool) → p κ ≡ b → (b || list_any p L) ≡ true → (list_any p L ≡ true → list_any q L ≡ true) → (q κ || list_any q L) ≡ true
      by true e k i = ap (λ (a : Bool). a || list_any q L) (so κ e)
      by false e k i = ap (λ (a : Bool). q κ || a) (i k) ∙ or_true same (q κ)

  module _ (L : List (Solution T)) where
    pub meets_left : (μ ν : Solution T) → meets_some same L (merge μ ν) ≡ true → meets_some same L μ ≡ true
    meets_left μ ν h = any_weaker (λ κ. is_compatible same κ (merge μ ν)) (λ κ. is_compatible same κ μ) (λ κ k. compatible_left κ μ ν k) L h

    pub meets_right : (μ ν : Solution T) → is_compatible same μ ν ≡ true → meets_some same L (merge μ ν) ≡ true → meets_some same L ν ≡ true
    meets_right μ ν c h = any_weaker (λ κ. is_compatible same κ (merge μ ν)) (λ κ. is_compatible same κ ν) (λ κ k. compatible_right κ μ ν c k) L h

  -- ---- the graphs that are named

  get_merged : (μ ν : Solution T) (k : ℕ) → get_or (merge μ ν) k None ≡ bound_or (get_or μ k None) (get_or ν k None)
  get_merged [] ν k = refl
  get_merged (x ∷ μ) [] k = sym (closed (get_or (x ∷ μ) k None))
    where
      closed : (x : Option T) → bound_or x None ≡ x
      closed None = refl
      closed (Some x) = refl
  get_merged (x ∷ μ) (y ∷ ν) zero = refl
  get_merged (x ∷ μ) (y ∷ ν) (suc k) = get_merged μ ν k

  name_at : (w v : ℕ) (i : T) → v < w → get_or (set (replicate w None) v (Some i)) v None ≡ Some i
  name_at zero v i low = absurd (omega (arith, low))
  name_at (suc w) zero i low = refl
  name_at (suc w) (suc v) i low = name_at w v i (omega (arith, low))

  bound_name : (x : Option T) (i : T) → agree same x (Some i) ≡ true → bound_or x (Some i) ≡ Some i
  bound_name None i h = refl
  bound_name (Some x) i h = ap Some ((decides x i).0 h)

  module _ (L : List (Solution T)) (w v : ℕ) (low : v < w) (all : bind_all L v ≡ true) where
    abbrev name_of : T → Solution T
    name_of i = set (replicate w None) v (Some i)

    not_met : (M : List (Solution T)) → bind_all M v ≡ true → (i : T) (ρ : Solution T) → get_or ρ v None ≡ Some i → is_named same M v i ≡ false → meets_some same M ρ ≡ false
    not_met [] a i ρ at e = refl
    not_met (μ ∷ M) a i ρ at e =
        let p = and_parts (is_some (get_or μ v None)) (bind_all M v) a in
        let q = neither (option_eq same (get_or μ v None) (Some i)) (is_named same M v i) e in
        λ j. one (get_or μ v None) refl p.0 q.0 j || not_met M p.1 i ρ at q.1 j
      where
        neither : (a b : Bool) → (a || b) ≡ false → (a ≡ false) × (b ≡ false)
        neither true b h = absurd (false≢true (sym h))
        neither false b h = (refl, h)

        differ : (x : Option T) → is_some x ≡ true → option_eq same x (Some i) ≡ false → agree same x (Some i) ≡ false
        differ None a b = absurd (false≢true a)
        differ (Some x) a b = b

        one : (x : Option T) → get_or μ v None ≡ x → is_some x ≡ true → option_eq same x (Some i) ≡ false → is_compatible same μ ρ ≡ false
        one x is a b = by (is_compatible same μ ρ) refl
          where
            by : (c : Bool) → is_compatible same μ ρ ≡ c → c ≡ false
            by true h = sym (sym (λ j. agree same (is j) (at j)) ∙ agree_at same μ ρ h v) ∙ differ x a b
            by false h = refl

    -- a graph that none of the solutions names has no solution that meets them
    pub none_met : (X : List (Solution T)) (i : T) → is_named same L v i ≡ false → filter (meets_some same L) (join same X (name_of i ∷ [])) ≡ []
    none_met [] i e = refl
    none_met (κ ∷ X) i e =
        filter-append (meets_some same L) (merges same κ (name_of i ∷ [])) (join same X (name_of i ∷ []))
        ∙ (λ j. here (is_compatible same κ (name_of i)) refl j ++ none_met X i e j)
      where
        here : (b : Bool) → is_compatible same κ (name_of i) ≡ b → filter (meets_some same L) (map (merge κ) (cond b (name_of i ∷ []) [])) ≡ []
        here true h =
            let at : get_or (merge κ (name_of i)) v None ≡ Some i =
            get_merged κ (name_of i) v ∙ ap (bound_or (get_or κ v None)) (name_at w v i low)
            ∙ bound_name (get_or κ v None) i (sym (ap (agree same (get_or κ v None)) (name_at w v i low)) ∙ agree_at same κ (name_of i) h v) in
            ap (λ (b : Bool). cond b (merge κ (name_of i) ∷ []) []) (not_met L all i (merge κ (name_of i)) at e)
        here false h = refl

    -- so only the graphs that are named are needed
    pub named_suffice : {I : Type 0} (P : I → List (Solution T)) (name : I → T) (is : List I)
        → filter (meets_some same L) (flat_map (λ i. join same (P i) (name_of (name i) ∷ [])) (filter (λ i. is_named same L v (name i)) is))
        ≡ filter (meets_some same L) (flat_map (λ i. join same (P i) (name_of (name i) ∷ [])) is)
    named_suffice P name [] = refl
    named_suffice {I} P name (i ∷ is) = by (is_named same L v (name i)) refl (named_suffice P name is)
      where
        F : I → List (Solution T)
        F i = join same (P i) (name_of (name i) ∷ [])

        rest : List I
        rest = filter (λ i. is_named same L v (name i)) is

        by : (b : Bool) → is_named same L v (name i) ≡ b → filter (meets_some same L) (flat_map F rest) ≡ filter (meets_some same L) (flat_map F is)
            → filter (meets_some same L) (flat_map F (cond (is_named same L v (name i)) (i ∷ rest) rest)) ≡ filter (meets_some same L) (F i ++ flat_map F is)
        by true e h =
            ap (λ (b : Bool). filter (meets_some same L) (flat_map F (cond b (i ∷ rest) rest))) e
            ∙ filter-append (meets_some same L) (F i) (flat_map F rest) ∙ ap (λ (l : List (Solution T)). filter (meets_some same L) (F i) ++ l) h
            ∙ sym (filter-append (meets_some same L) (F i) (flat_map F is))
        by false e h =
            ap (λ (b : Bool). filter (meets_some same L) (flat_map F (cond b (i ∷ rest) rest))) e ∙ h
            ∙ sym (filter-append (meets_some same L) (F i) (flat_map F is) ∙ ap (λ (l : List (Solution T)). l ++ filter (meets_some same L) (flat_map F is)) (none_met (P i) (name i) e))
