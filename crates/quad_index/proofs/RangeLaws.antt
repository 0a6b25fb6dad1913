-- Two binary searches in a sorted list give the elements that an order does not distinguish from a given
-- one.
use Rattle.std.proofs.Common.{◌≡◌, ℕ, zero, suc, ◌+◌, ◌-◌, ◌<◌, ◌≤◌, Bool, true, false, cond, List, [], ◌∷◌, ◌++◌, length, get_or, take, drop, filter, map, IsSorted, refl, sym, ap, ◌∙◌, subst, true≢false, length-take, length-drop, arith}
use Rattle.std.specs.List.{AllWithin}
use Rattle.std.specs.List.Sorted.{IsNonDecreasingBy, IsPartitionedBy, IsPartitionPoint}
use Rattle.std.specs.Ordering.{is_eq, is_lt, is_le, ordering_index}
use Rattle.std.specs.Cmp.{IsTotalOrder}
use Rattle.std.specs.declared.cmp.Ordering.{Ordering}
use Rattle.std.specs.declared.cmp.Ordering.TheVariants.{Less, Equal, Greater}
use Rattle.std.proofs.lemmas.List.{get_or-take, get_or-drop, take-append-drop, append-nil, length-map}
use Rattle.std.proofs.Math.Seq.{take-length}
use Rattle.std.proofs.lemmas.List.Elements.{filter-append}
use Rattle.std.proofs.lemmas.List.Sorted.{searchable_from_sorted, IsNonDecreasingBy-drop}

lt_down : (a b : Ordering) → ordering_index a ≤ ordering_index b → is_lt b ≡ true → is_lt a ≡ true
lt_down Less b h e = refl
lt_down Equal Less h e = absurd (omega (arith, h))
lt_down Greater Less h e = absurd (omega (arith, h))
lt_down Equal Equal h e = e
lt_down Equal Greater h e = e
lt_down Greater Equal h e = e
lt_down Greater Greater h e = e

le_down : (a b : Ordering) → ordering_index a ≤ ordering_index b → is_le b ≡ true → is_le a ≡ true
le_down Less b h e = refl
le_down Equal b h e = refl
le_down Greater Less h e = absurd (omega (arith, h))
le_down Greater Equal h e = absurd (omega (arith, h))
le_down Greater Greater h e = e

module _ {X : Type 0} where
  none_passes : (p : X → Bool) (xs : List X) → ((k : ℕ) (d : X) → k < length xs → p (get_or xs k d) ≡ false) → filter p xs ≡ []
  none_passes p [] h = refl
  none_passes p (x ∷ xs) h =
      ap (λ b. cond b (x ∷ filter p xs) (filter p xs)) (h 0 x (omega arith))
      ∙ none_passes p xs (λ k d below. h (suc k) d (omega arith))

  all_pass : (p : X → Bool) (xs : List X) → ((k : ℕ) (d : X) → k < length xs → p (get_or xs k d) ≡ true) → filter p xs ≡ xs
  all_pass p [] h = refl
  all_pass p (x ∷ xs) h =
      ap (λ b. cond b (x ∷ filter p xs) (filter p xs)) (h 0 x (omega arith))
      ∙ ap (λ l. x ∷ l) (all_pass p xs (λ k d below. h (suc k) d (omega arith)))

  in_take : (P : X → Type 0) (n : ℕ) (xs : List X) → AllWithin P xs 0 n → (k : ℕ) (d : X) → k < length (take n xs) → P (get_or (take n xs) k d)
  in_take P n xs h k d below =
      let long = length-take n xs in
      let here : k < n = omega arith in
      subst P (sym (get_or-take n xs k d here)) (h k d (omega arith) here)

  in_drop : (P : X → Type 0) (n : ℕ) (xs : List X) → AllWithin P xs n (length xs) → (k : ℕ) (d : X) → k < length (drop n xs) → P (get_or (drop n xs) k d)
  in_drop P n xs h k d below =
      let long = length-drop n xs in
      subst P (sym (get_or-drop n xs k d)) (h (n + k) d (omega arith) (omega arith))

  module _ (ord : X → Ordering) where
    before : (o : Ordering) → is_lt o ≡ true → is_eq o ≡ false
    before Less h = refl
    before Equal h = absurd (true≢false (sym h))
    before Greater h = refl

    not_equal : (o : Ordering) → is_le o ≡ false → is_eq o ≡ false
    not_equal Less h = refl
    not_equal Equal h = absurd (true≢false h)
    not_equal Greater h = refl

    level : (o : Ordering) → is_lt o ≡ false → is_le o ≡ true → is_eq o ≡ true
    level Less h k = absurd (true≢false h)
    level Equal h k = refl
    level Greater h k = k

    pub parted_lt : (xs : List X) → IsNonDecreasingBy (λ y. ordering_index (ord y)) xs → IsPartitionedBy (λ y. is_lt (ord y)) xs
    parted_lt xs up i j d before_j within h = lt_down (ord (get_or xs i d)) (ord (get_or xs j d)) (up i j d before_j within) h

    pub parted_le : (xs : List X) → IsNonDecreasingBy (λ y. ordering_index (ord y)) xs → IsPartitionedBy (λ y. is_le (ord y)) xs
    parted_le xs up i j d before_j within h = le_down (ord (get_or xs i d)) (ord (get_or xs j d)) (up i j d before_j within) h

    pub range_is : (xs : List X) (start count : ℕ)
        → IsPartitionPoint (λ y. is_lt (ord y) ≡ true) (λ y. is_lt (ord y) ≡ false) xs start
        → IsPartitionPoint (λ y. is_le (ord y) ≡ true) (λ y. is_le (ord y) ≡ false) (drop start xs) count
        → take count (drop start xs) ≡ filter (λ y. is_eq (ord y)) xs
    range_is xs start count low high =
        let p : X → Bool = λ y. is_eq (ord y) in
        let rest = drop start xs in
        let from_start = in_drop (λ y. is_lt (ord y) ≡ false) start xs low.1 in
        let front : filter p (take start xs) ≡ [] =
        none_passes p (take start xs) (λ k d below. before (ord (get_or (take start xs) k d)) (in_take (λ y. is_lt (ord y) ≡ true) start xs low.0 k d below)) in
        let middle : filter p (take count rest) ≡ take count rest =
        all_pass p (take count rest) (λ k d below.
        let long = length-take count rest in
        let here : k < count = omega arith in
        let same = get_or-take count rest k d here in
        level (ord (get_or (take count rest) k d)) (subst (λ y. is_lt (ord y) ≡ false) (sym same) (from_start k d (omega arith)))
        (in_take (λ y. is_le (ord y) ≡ true) count rest high.0 k d below)) in
        let back : filter p (drop count rest) ≡ [] =
        none_passes p (drop count rest) (λ k d below. not_equal (ord (get_or (drop count rest) k d)) (in_drop (λ y. is_le (ord y) ≡ false) count rest high.1 k d below)) in
        sym (ap (filter p) (sym (take-append-drop start xs)) ∙ filter-append p (take start xs) rest ∙ ap (λ l. l ++ filter p rest) front
        ∙ ap (filter p) (sym (take-append-drop count rest)) ∙ filter-append p (take count rest) (drop count rest)
        ∙ (λ i. middle i ++ back i) ∙ append-nil (take count rest))

-- what is left after a place, as a slice says it
pub rest_is : {X : Type 0} (xs : List X) (n : ℕ) → take (length xs - n) (drop n xs) ≡ drop n xs
rest_is xs n = ap (λ m. take m (drop n xs)) (sym (length-drop n xs)) ∙ take-length (drop n xs)

module _ {X : Type 0} (R : X → X → Ordering) (o : IsTotalOrder R) (xs : List X) (sorted : IsSorted R xs) (w : X) where
  pub rising : IsNonDecreasingBy (λ y. ordering_index (R y w)) xs
  rising = searchable_from_sorted o (λ y. y) xs w sorted

  pub rising-drop : (n : ℕ) → IsNonDecreasingBy (λ y. ordering_index (R y w)) (drop n xs)
  rising-drop n = IsNonDecreasingBy-drop (λ y. ordering_index (R y w)) n xs rising

  pub rising_rest : (n : ℕ) → IsNonDecreasingBy (λ y. ordering_index (R y w)) (take (length xs - n) (drop n xs))
  rising_rest n = subst (IsNonDecreasingBy (λ y. ordering_index (R y w))) (sym (rest_is xs n)) (rising-drop n)

  pub parted_front : IsPartitionedBy (λ y. is_lt (R y w)) xs
  parted_front = parted_lt (λ y. R y w) xs rising

  pub parted_rest : (n : ℕ) → IsPartitionedBy (λ y. is_le (R y w)) (take (length xs - n) (drop n xs))
  parted_rest n = parted_le (λ y. R y w) (take (length xs - n) (drop n xs)) (rising_rest n)

pub found_is : {X : Type 0} (R : X → X → Ordering) (xs : List X) (w : X) (start count : ℕ)
    → IsPartitionPoint (λ y. is_lt (R y w) ≡ true) (λ y. is_lt (R y w) ≡ false) xs start
    → IsPartitionPoint (λ y. is_le (R y w) ≡ true) (λ y. is_le (R y w) ≡ false) (take (length xs - start) (drop start xs)) count
    → take count (take (length xs - start) (drop start xs)) ≡ filter (λ y. is_eq (R y w)) xs
found_is R xs w start count low high =
    ap (take count) (rest_is xs start)
    ∙ range_is (λ y. R y w) xs start count low
    (subst (λ l. IsPartitionPoint (λ y. is_le (R y w) ≡ true) (λ y. is_le (R y w) ≡ false) l count) (rest_is xs start) high)

-- the same in a list of keys, each of which has an element
module _ {K X : Type 0} (f : K → X) where
  get_of : (ks : List K) (i : ℕ) (d : K) → get_or (map f ks) i (f d) ≡ f (get_or ks i d)
  get_of [] i d = refl
  get_of (k ∷ ks) zero d = refl
  get_of (k ∷ ks) (suc i) d = get_of ks i d

  map-filter : (p : X → Bool) (ks : List K) → map f (filter (λ k. p (f k)) ks) ≡ filter p (map f ks)
  map-filter p [] = refl
  map-filter p (k ∷ ks) = by (p (f k)) (map-filter p ks)
    where
      by : (b : Bool) → map f (filter (λ j. p (f j)) ks) ≡ filter p (map f ks)
          → map f (cond b (k ∷ filter (λ j. p (f j)) ks) (filter (λ j. p (f j)) ks)) ≡ cond b (f k ∷ filter p (map f ks)) (filter p (map f ks))
      by true e = ap (λ l. f k ∷ l) e
      by false e = e

  module _ (R : X → X → Ordering) (o : IsTotalOrder R) (ks : List K) (sorted : IsSorted R (map f ks)) (w : X) where
    keys_sorted : IsSorted (λ a b. R (f a) (f b)) ks
    keys_sorted i d low high =
        let n = length-map ks f in
        ap is_lt (λ j. R (sym (get_of ks (i + 1) d) j) (sym (get_of ks i d) j)) ∙ sorted i (f d) (omega (arith, n, low)) (omega (arith, n, high))

    keys_rise : IsNonDecreasingBy (λ k. ordering_index (R (f k) w)) ks
    keys_rise = searchable_from_sorted o f ks w keys_sorted

    pub parted_keys : IsPartitionedBy (λ k. is_lt (R (f k) w)) ks
    parted_keys = parted_lt (λ k. R (f k) w) ks keys_rise

    pub parted_rest_keys : (n : ℕ) → IsPartitionedBy (λ k. is_le (R (f k) w)) (take (length ks - n) (drop n ks))
    parted_rest_keys n =
        let rest : IsNonDecreasingBy (λ k. ordering_index (R (f k) w)) (take (length ks - n) (drop n ks)) =
        subst (IsNonDecreasingBy (λ k. ordering_index (R (f k) w))) (sym (rest_is ks n)) (IsNonDecreasingBy-drop (λ k. ordering_index (R (f k) w)) n ks keys_rise) in
        parted_le (λ k. R (f k) w) (take (length ks - n) (drop n ks)) rest

  pub found_keys : (R : X → X → Ordering) (ks : List K) (w : X) (start count : ℕ)
      → IsPartitionPoint (λ k. is_lt (R (f k) w) ≡ true) (λ k. is_lt (R (f k) w) ≡ false) ks start
      → IsPartitionPoint (λ k. is_le (R (f k) w) ≡ true) (λ k. is_le (R (f k) w) ≡ false) (take (length ks - start) (drop start ks)) count
      → map f (take count (take (length ks - start) (drop start ks))) ≡ filter (λ y. is_eq (R y w)) (map f ks)
  found_keys R ks w start count low high =
      ap (map f) (ap (take count) (rest_is ks start)
      ∙ range_is (λ k. R (f k) w) ks start count low
      (subst (λ l. IsPartitionPoint (λ k. is_le (R (f k) w) ≡ true) (λ k. is_le (R (f k) w) ≡ false) l count) (rest_is ks start) high))
      ∙ map-filter (λ y. is_eq (R y w)) ks
