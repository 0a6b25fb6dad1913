-- A sorted list without its neighbours that are the same has each element once.
use Rattle.std.proofs.Common.{◌≡◌, zero, suc, ◌+◌, Bool, true, false, not, cond, ◌||◌, List, [], ◌∷◌, get_or, filter, Decides, IsPermutation, IsSorted, refl, ap, ◌∙◌, subst, true≢false, arith}
use Rattle.std.specs.List.{All, dedup, list_any}
use Rattle.std.specs.List.Sorted.{IsStrictlySortedBy}
use Rattle.std.specs.Ordering.{is_eq, is_lt, eq_by_cmp, ordering_reverse}
use Rattle.std.specs.declared.cmp.Ordering.{Ordering}
use Rattle.std.specs.declared.cmp.Ordering.TheVariants.{Less}
use Rattle.std.specs.Cmp.{IsTotalOrder, decided}
use Rattle.std.proofs.lemmas.List.Elements.{All-head, All-tail}
use Rattle.std.proofs.lemmas.List.Kept.{IsStrictlySortedBy-dedup, Contains-dedup, Contains-from_dedup}
use Rattle.std.proofs.lemmas.List.Sorted.{IsPermutation-trans}
use Rattle.std.proofs.lemmas.Map.Keys.{sorted_tail}
use Rattle.std.proofs.lemmas.Map.Views.{All-after_first}
use Rattle.algebra_model.specs.Bag.{IsWithoutRepeats, without_repeats}
use Rattle.algebra_model.proofs.RepeatLaws.{without_repeats-IsPermutation}
use Rattle.algebra_model.proofs.SetLaws.{alike_from_set, without_repeats-alike}

module _ {X : Type 0} (same : X → X → Bool) (decides : (x y : X) → Decides (same x y) (x ≡ y)) where
  none_dropped : (x : X) (xs : List X) → list_any (same x) xs ≡ false → filter (λ y. not (same x y)) xs ≡ xs
  none_dropped x [] h = refl
  none_dropped x (y ∷ ys) h = by (same x y) h (none_dropped x ys)
    where
      by : (b : Bool) → (b || list_any (same x) ys) ≡ false → (list_any (same x) ys ≡ false → filter (λ z. not (same x z)) ys ≡ ys)
          → cond (not b) (y ∷ filter (λ z. not (same x z)) ys) (filter (λ z. not (same x z)) ys) ≡ y ∷ ys
      by true e rest = absurd (true≢false e)
      by false e rest = ap (λ l. y ∷ l) (rest e)

  -- a list without repeats is itself without them
  pub once_already : (xs : List X) → IsWithoutRepeats same xs → without_repeats same xs ≡ xs
  once_already [] h = refl
  once_already (x ∷ xs) h = ap (λ l. x ∷ filter (λ y. not (same x y)) l) (once_already xs h.1) ∙ ap (λ l. x ∷ l) (none_dropped x xs h.0)

  module _ (R : X → X → Ordering) (o : IsTotalOrder R) (ties : (x y : X) → same x y ≡ eq_by_cmp R x y) where
    turned : (x y : X) → R x y ≡ Less → is_lt (R y x) ≡ false
    turned x y e = ap is_lt (o.antisymm y x ∙ ap ordering_reverse e)

    below_first : (x : X) (xs : List X) → All (λ y. R x y ≡ Less) xs → list_any (same x) xs ≡ false
    below_first x [] h = refl
    below_first x (y ∷ ys) h =
        ap (λ b. b || list_any (same x) ys) (ties x y ∙ ap is_eq (All-head (λ z. R x z ≡ Less) y ys h))
        ∙ below_first x ys (All-tail (λ z. R x z ≡ Less) y ys h)

    distinct_strict : (xs : List X) → IsStrictlySortedBy R xs → IsWithoutRepeats same xs
    distinct_strict [] h = tt
    distinct_strict (x ∷ xs) h = (below_first x xs (All-after_first R x xs h), distinct_strict xs (sorted_tail R x xs h))

    sorted_strict : (xs : List X) → IsStrictlySortedBy R xs → IsSorted R xs
    sorted_strict [] h k d low high = absurd (omega arith)
    sorted_strict (x ∷ xs) h zero d low high =
        let next : suc zero ≡ zero + 1 = omega arith in
        subst (λ n. is_lt (R (get_or (x ∷ xs) n d) x) ≡ false) next (turned x (get_or xs 0 d) (All-after_first R x xs h 0 d (omega arith)))
    sorted_strict (x ∷ xs) h (suc k) d low high =
        let next : suc (k + 1) ≡ suc k + 1 = omega arith in
        subst (λ n. is_lt (R (get_or (x ∷ xs) n d) (get_or xs k d)) ≡ false) next (sorted_strict xs (sorted_tail R x xs h) k d (omega arith) (omega arith))

    strict_dedup : (xs : List X) → IsSorted R xs → IsStrictlySortedBy R (dedup same xs)
    strict_dedup xs h = IsStrictlySortedBy-dedup o ties xs h

    pub dedup_sorted : (xs : List X) → IsSorted R xs → IsSorted R (dedup same xs)
    dedup_sorted xs h = sorted_strict (dedup same xs) (strict_dedup xs h)

    pub dedup_distinct : (xs : List X) → IsSorted R xs → IsWithoutRepeats same (dedup same xs)
    dedup_distinct xs h = distinct_strict (dedup same xs) (strict_dedup xs h)

    -- what is left is the list without its repeats
    pub dedup_once : (xs : List X) → IsSorted R xs → IsPermutation (without_repeats same xs) (dedup same xs)
    dedup_once xs h =
        subst (λ l. IsPermutation (without_repeats same xs) l) (once_already (dedup same xs) (dedup_distinct xs h))
        (without_repeats-alike same decides xs (dedup same xs)
        (alike_from_set xs (dedup same xs)
        (λ x. (Contains-dedup (decided same decides) (λ a b. (decides a b).0) xs x, Contains-from_dedup same xs x))))

    pub dedup_once_of : (old xs : List X) → IsPermutation old xs → IsSorted R xs → IsPermutation (without_repeats same old) (dedup same xs)
    dedup_once_of old xs moved h =
        IsPermutation-trans (without_repeats same old) (without_repeats same xs) (dedup same xs) (without_repeats-IsPermutation same decides old xs moved) (dedup_once xs h)
