-- Quads that are sorted by their hashes.
use Rattle.std.proofs.Common.{◌≡◌, ℕ, zero, suc, ◌+◌, ◌-◌, ◌<◌, ◌≤◌, Bool, true, false, nat_eq, List, [], ◌∷◌, ◌++◌, length, map, take, get_or, None, IsPermutation, IsSorted, refl, sym, ap, ◌∙◌, subst, inl, inr, arith, eq-eqb}
use Rattle.std.specs.List.{All, dedup}
use Rattle.std.specs.List.Sorted.{IsNonDecreasingBy, IsSortedByKey}
use Rattle.std.specs.Ordering.{is_lt, nat_cmp}
use Rattle.std.proofs.lemmas.Bool.{cases_lt, eqb-true, false≢true}
use Rattle.std.proofs.lemmas.Bool.Decides.{Decides-eqb}
use Rattle.std.proofs.lemmas.Cmp.{nat_cmp_total}
use Rattle.std.proofs.lemmas.List.{get_or-map, get_or_default, length-map, map-append, take_more}
use Rattle.std.proofs.lemmas.List.Elements.{All-cons, All-filter, All-head, All-map, All-push, All-tail}
use Rattle.std.proofs.lemmas.List.Sorted.{IsNonDecreasingBy-from_sort, IsPermutation-map, IsPermutation-trans}
use Rattle.algebra_model.specs.Bag.{without_repeats}
use Rattle.algebra_model.proofs.RepeatLaws.{without_repeats-IsPermutation}
use Rattle.dict_core.specs.declared.num_quad.NumQuad.{NumQuad}
use Rattle.dict_core.proofs.NumQuadLaws.{quad_eq, quad_decides}
use Rattle.quad_index.proofs.OnceLaws.{dedup_sorted}
use Rattle.quad_index.proofs.SortOrderLaws.{nat_ties}
use Rattle.cluster_parts.specs.declared.hashed_places.HashedPlace.{HashedPlace}
use Rattle.cluster_parts.specs.Numbered.{Agree, IsHashed, NeighboursAgree, hash_by_numbers, quad_there}
use Rattle.cluster_parts.proofs.Each.{Each}
use Rattle.cluster_parts.proofs.RepeatedLaws.{sorted_once}
use Rattle.cluster_parts.proofs.SetCounts.{without_repeats-map}

-- what holds of each element holds of each distinct one
pub All-without_repeats : {X : Type 0} (P : X → Type 0) (same : X → X → Bool) (xs : List X) → All P xs → All P (without_repeats same xs)
All-without_repeats P same [] h = h
All-without_repeats P same (x ∷ xs) h =
    All-cons P x _ (All-head P x xs h) (All-filter _ P (without_repeats same xs) (All-without_repeats P same xs (All-tail P x xs h)))

each_of_all : {X : Type 0} (P : X → Type 0) (xs : List X) → All P xs → Each P xs
each_of_all P [] h = tt
each_of_all P (x ∷ xs) h = (All-head P x xs h, each_of_all P xs (All-tail P x xs h))

abbrev no_place : HashedPlace
no_place = record { hash = 0; place = 0 }

-- a list that is sorted by its hashes has its hashes in order
sorted_hashes : (xs : List HashedPlace) → IsSortedByKey (λ x. x.hash) nat_cmp xs → IsSorted nat_cmp (map (λ x. x.hash) xs)
sorted_hashes xs sorted k d low high =
    let long = length-map xs (λ x. x.hash) in
    let inside : k + 1 < length xs = omega (arith, long, high) in
    let here = get_or-map (λ x. x.hash) xs k no_place d (omega (arith, inside)) in
    let next = get_or-map (λ x. x.hash) xs (k + 1) no_place d inside in
    (λ i. is_lt (nat_cmp (next i) (here i))) ∙ sorted k no_place low inside

module _ (hashes : List ℕ) (quads : List NumQuad) where
  abbrev quad_in : HashedPlace → NumQuad
  quad_in = quad_there quads

  abbrev hash_in : NumQuad → ℕ
  hash_in = hash_by_numbers hashes

  abbrev Hashed : HashedPlace → Type 0
  Hashed = IsHashed hashes quads

  -- ---- one more quad

  pub place_more : (x : HashedPlace) (xs xs' : List HashedPlace) → x.place < length quads → x.hash ≡ hash_by_numbers hashes (quad_there quads x) → All (IsHashed hashes quads) xs
      → map (quad_there quads) xs ≡ take x.place quads → xs' ≡ xs ++ x ∷ [] → All (IsHashed hashes quads) xs' × (map (quad_there quads) xs' ≡ take (x.place + 1) quads)
  place_more x xs xs' inside hashed all are pushed = (
    subst (All Hashed) (sym pushed) (All-push Hashed xs x all (inside, hashed)),
    ap (map quad_in) pushed ∙ map-append quad_in xs (x ∷ []) ∙ ap (λ l. l ++ quad_in x ∷ []) are
        ∙ sym (take_more quads x.place (record { g = None; s = 0; p = 0; o = 0 }) inside),
  )

  -- ---- all quads, sorted by their hashes

  hashes_are : (xs : List HashedPlace) → All Hashed xs → map (λ x. x.hash) xs ≡ map hash_in (map quad_in xs)
  hashes_are [] h = refl
  hashes_are (x ∷ xs) h = λ i. (All-head Hashed x xs h).1 i ∷ hashes_are xs (All-tail Hashed x xs h) i

  module _ (xs : List HashedPlace) (all : All Hashed xs) (sorted : IsSortedByKey (λ x. x.hash) nat_cmp xs) (agree : NeighboursAgree quads xs) where
    abbrev nth : ℕ → HashedPlace
    nth i = get_or xs i no_place

    -- two places with the same hash, and with others between them
    far_agree : (n i : ℕ) → i + n < length xs → (nth i).hash ≡ (nth (i + n)).hash → quad_in (nth i) ≡ quad_in (nth (i + n))
    far_agree zero i inside same = let e : i ≡ i + 0 = omega arith in ap (λ k. quad_in (nth k)) e
    far_agree (suc n) i inside same =
        let e : i + n + 1 ≡ i + suc n = omega arith in
        let up : IsNonDecreasingBy (λ x. x.hash) xs = IsNonDecreasingBy-from_sort (λ x. x.hash) xs sorted in
        let low : (nth i).hash ≤ (nth (i + n)).hash = up i (i + n) no_place (omega arith) (omega (arith, inside)) in
        let high : (nth (i + n)).hash ≤ (nth (i + suc n)).hash = up (i + n) (i + suc n) no_place (omega arith) inside in
        let here : (nth i).hash ≡ (nth (i + n)).hash = omega (arith, low, high, same) in
        let next : (nth (i + n)).hash ≡ (nth (i + n + 1)).hash = sym here ∙ same ∙ ap (λ k. (nth k).hash) (sym e) in
        far_agree n i (omega (arith, inside)) here ∙ agree (i + n) no_place (omega (arith, inside)) next ∙ ap (λ k. quad_in (nth k)) e

    -- the quad is at one of the places
    abbrev IsThere : NumQuad → Type 0
    IsThere q = (i : ℕ) × (i < length xs) × (q ≡ quad_in (nth i))

    all_there : All IsThere (map quad_in xs)
    all_there = All-map IsThere quad_in xs (λ k d inside. (k, inside, ap quad_in (get_or_default xs k d no_place inside)))

    hash_at : (q : NumQuad) (t : IsThere q) → hash_in q ≡ (nth t.0).hash
    hash_at q t = ap hash_in t.2 ∙ sym (all t.0 no_place t.1).1

    in_order : (i j : ℕ) → i ≤ j → j < length xs → (nth i).hash ≡ (nth j).hash → quad_in (nth i) ≡ quad_in (nth j)
    in_order i j rising inside same =
        let e : i + (j - i) ≡ j = omega (arith, rising) in
        far_agree (j - i) i (omega (arith, e, inside)) (same ∙ ap (λ k. (nth k).hash) (sym e)) ∙ ap (λ k. quad_in (nth k)) e

    -- quads with the same hash are the same
    one_quad : (q r : NumQuad) → IsThere q → IsThere r → hash_in q ≡ hash_in r → q ≡ r
    one_quad q r t u same =
        let hashes_same : (nth t.0).hash ≡ (nth u.0).hash = sym (hash_at q t) ∙ same ∙ hash_at r u in
        let places_same : quad_in (nth t.0) ≡ quad_in (nth u.0) = elim (cases_lt t.0 u.0) [
          | inl low ↦ in_order t.0 u.0 (omega (arith, low)) u.1 hashes_same
          | inr high ↦ sym (in_order u.0 t.0 high t.1 (sym hashes_same))
        ] in
        t.2 ∙ places_same ∙ sym u.2

    one_to_one : (q r : NumQuad) → IsThere q → IsThere r → nat_eq (hash_in q) (hash_in r) ≡ quad_eq q r
    one_to_one q r t u = by (nat_eq (hash_in q) (hash_in r)) (quad_eq q r) refl refl
      where
        by : (a b : Bool) → nat_eq (hash_in q) (hash_in r) ≡ a → quad_eq q r ≡ b → a ≡ b
        by true true e f = refl
        by false false e f = refl
        by true false e f = absurd (false≢true (sym f ∙ (quad_decides q r).1 (one_quad q r t u (eqb-true (hash_in q) (hash_in r) e))))
        by false true e f = absurd (false≢true (sym e ∙ eq-eqb (hash_in q) (hash_in r) (ap hash_in ((quad_decides q r).0 f))))

    distinct : map hash_in (without_repeats quad_eq (map quad_in xs)) ≡ without_repeats nat_eq (map (λ x. x.hash) xs)
    distinct =
        sym (without_repeats-map IsThere quad_eq nat_eq hash_in one_to_one (map quad_in xs) (each_of_all IsThere (map quad_in xs) all_there))
        ∙ ap (without_repeats nat_eq) (sym (hashes_are xs all))

    -- the different hashes are those of the distinct quads
    pub hashes_are_once : (found : List ℕ) → IsPermutation quads (map (quad_there quads) xs) → found ≡ dedup nat_eq (map (λ x. x.hash) xs)
        → IsPermutation (map (hash_by_numbers hashes) (without_repeats quad_eq quads)) found
    hashes_are_once found moved is =
        let ns = map (λ x. x.hash) xs in
        IsPermutation-trans (map hash_in (without_repeats quad_eq quads)) (map hash_in (without_repeats quad_eq (map quad_in xs))) found
        (IsPermutation-map hash_in (without_repeats quad_eq quads) (without_repeats quad_eq (map quad_in xs)) (without_repeats-IsPermutation quad_eq quad_decides quads (map quad_in xs) moved))
        (subst (λ l. IsPermutation l found) (sym distinct) (subst (IsPermutation (without_repeats nat_eq ns)) (sym is) (sorted_once ns (sorted_hashes xs sorted))))

    pub hashes_ascend : (found : List ℕ) → found ≡ dedup nat_eq (map (λ x. x.hash) xs) → IsSorted nat_cmp found
    hashes_ascend found is =
        subst (IsSorted nat_cmp) (sym is)
        (dedup_sorted nat_eq Decides-eqb nat_cmp nat_cmp_total (λ x y. sym (nat_ties x y)) (map (λ x. x.hash) xs) (sorted_hashes xs sorted))

-- ---- neighbours

pub neighbours_more : (quads : List NumQuad) (xs : List HashedPlace) (i : ℕ) (a b : HashedPlace) → 1 ≤ i → i < length xs → get_or xs (i - 1) a ≡ a → get_or xs i b ≡ b → Agree quads a b
    → ((k : ℕ) (d : HashedPlace) → k + 1 < i → Agree quads (get_or xs k d) (get_or xs (k + 1) d))
    → (k : ℕ) (d : HashedPlace) → k + 1 < i + 1 → Agree quads (get_or xs k d) (get_or xs (k + 1) d)
neighbours_more quads xs i a b some inside first second here before k d low =
    elim (cases_lt (k + 1) i) [
      | inl less ↦ before k d less
      | inr last ↦
          let at : k ≡ i - 1 = omega (arith, low, last, some) in
          let next : k + 1 ≡ i = omega (arith, low, last) in
          let x : get_or xs k d ≡ a = ap (λ j. get_or xs j d) at ∙ get_or_default xs (i - 1) d a (omega (arith, inside, some)) ∙ first in
          let y : get_or xs (k + 1) d ≡ b = ap (λ j. get_or xs j d) next ∙ get_or_default xs i d b inside ∙ second in
          subst (λ z. Agree quads z (get_or xs (k + 1) d)) (sym x) (subst (Agree quads a) (sym y) here)
    ]
