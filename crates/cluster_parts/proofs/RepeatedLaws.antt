-- Numbers that a list has at two places, and the elements that have them as hashes.
use Rattle.std.proofs.Common.{◌≡◌, ℕ, ◌+◌, Bool, true, false, cond, nat_eq, not, ◌&&◌, ◌||◌, if◌then◌else◌, List, [], ◌∷◌, ◌++◌, length, map, filter, Decides, refl, sym, ap, ◌∙◌, ⊎_elim, arith, eq-eqb, ne_eqb, take, get_or, zero, suc, ◌<◌, ◌≤◌, IsPermutation, IsSorted, nat_lt, count_by}
use Rattle.std.proofs.lemmas.List.{length-map, take_more}
use Rattle.std.specs.List.{dedup, list_any}
use Rattle.std.specs.List.Sorted.{IsNonDecreasing}
use Rattle.std.specs.Ordering.{nat_cmp}
use Rattle.std.proofs.lemmas.Bool.{cases_Bool, cases_eq, eqb-true, false≢true, le-ltb, lt-ltb}
use Rattle.std.proofs.lemmas.Bool.Decides.{Decides-eqb}
use Rattle.std.proofs.lemmas.List.Filters.{length-filter_both}
use Rattle.std.proofs.lemmas.List.Folds.{list_any-append}
use Rattle.std.proofs.lemmas.List.Sorted.{IsNonDecreasingBy-from_sort, length_permutation}
use Rattle.algebra_model.specs.Bag.{IsWithoutRepeats, without_repeats}
use Rattle.algebra_model.proofs.BagLaws.{IsPermutation-filter, count_by-IsPermutation, count_by-no, count_by-yes}
use Rattle.algebra_model.proofs.RepeatLaws.{IsWithoutRepeats-filter, IsWithoutRepeats-without_repeats, any-without_repeats_is}
use Rattle.std.proofs.lemmas.Cmp.{nat_cmp_total}
use Rattle.quad_index.proofs.OnceLaws.{dedup_once}
use Rattle.quad_index.proofs.SortOrderLaws.{nat_ties}
use Rattle.cluster_parts.specs.Repeated.{has, is_repeated, single}
use Rattle.cluster_parts.proofs.SetCounts.{any-filter_is, length_of_set, map-filter}

none_and : (a : Bool) → false ≡ (a && false)
none_and true = refl
none_and false = refl

pub repeated_has : (xs : List ℕ) (h : ℕ) → is_repeated xs h ≡ true → has xs h ≡ true
repeated_has [] h e = e
repeated_has (m ∷ xs) h e = by (nat_eq h m) refl e (repeated_has xs h)
  where
    by : (b : Bool) → nat_eq h m ≡ b → (if b then has xs h else is_repeated xs h) ≡ true → (is_repeated xs h ≡ true → has xs h ≡ true) → (b || has xs h) ≡ true
    by true f e ih = refl
    by false f e ih = ih e

-- what is repeated is there
pub repeated_and_has : (xs : List ℕ) (h : ℕ) → (is_repeated xs h && has xs h) ≡ is_repeated xs h
repeated_and_has xs h = by (is_repeated xs h) refl
  where
    by : (b : Bool) → is_repeated xs h ≡ b → (b && has xs h) ≡ b
    by true e = repeated_has xs h e
    by false e = refl

-- ---- one more number

pub repeated_more : (xs : List ℕ) (x n : ℕ) → is_repeated (xs ++ x ∷ []) n ≡ (is_repeated xs n || (nat_eq n x && has xs n))
repeated_more [] x n = by (nat_eq n x)
  where
    by : (b : Bool) → (if b then false else false) ≡ (false || (b && false))
    by true = refl
    by false = refl
repeated_more (m ∷ xs) x n = by (nat_eq n m) (repeated_more xs x n) (list_any-append (nat_eq n) xs (x ∷ []))
  where
    last : (a b : Bool) → (a || (b || false)) ≡ (a || (b && true))
    last true b = refl
    last false true = refl
    last false false = refl

    by : (b : Bool) → is_repeated (xs ++ x ∷ []) n ≡ (is_repeated xs n || (nat_eq n x && has xs n)) → has (xs ++ x ∷ []) n ≡ (has xs n || (nat_eq n x || false))
        → (if b then has (xs ++ x ∷ []) n else is_repeated (xs ++ x ∷ []) n) ≡ ((if b then has xs n else is_repeated xs n) || (nat_eq n x && (b || has xs n)))
    by true e f = f ∙ last (has xs n) (nat_eq n x)
    by false e f = e

pub pushed_has : (xs : List ℕ) (x n : ℕ) → (has xs n || nat_eq n x) ≡ has (xs ++ x ∷ []) n
pushed_has xs x n = ap (λ b. has xs n || b) (by (nat_eq n x)) ∙ sym (list_any-append (nat_eq n) xs (x ∷ []))
  where
    by : (b : Bool) → b ≡ (b || false)
    by true = refl
    by false = refl

-- the number was there before
pub repeated_again : (xs : List ℕ) (x n : ℕ) → has xs x ≡ true → (is_repeated xs n || nat_eq n x) ≡ is_repeated (xs ++ x ∷ []) n
repeated_again xs x n seen = ap (λ b. is_repeated xs n || b) (by (nat_eq n x) refl) ∙ sym (repeated_more xs x n)
  where
    by : (b : Bool) → nat_eq n x ≡ b → b ≡ (b && has xs n)
    by true e = sym (ap (has xs) (eqb-true n x e) ∙ seen)
    by false e = refl

-- the number is new
pub not_repeated : (xs : List ℕ) (x n : ℕ) → has xs x ≡ false → is_repeated xs n ≡ is_repeated (xs ++ x ∷ []) n
not_repeated xs x n new = by (is_repeated xs n) (nat_eq n x) refl ∙ sym (repeated_more xs x n)
  where
    none : (a : Bool) → a ≡ (a || false)
    none true = refl
    none false = refl

    by : (a b : Bool) → nat_eq n x ≡ b → a ≡ (a || (b && has xs n))
    by a true e = none a ∙ ap (λ b. a || b) (sym (ap (has xs) (eqb-true n x e) ∙ new))
    by a false e = none a

-- ---- elements whose hash occurs once

module _ {X : Type 0} (same : X → X → Bool) (decides : (x y : X) → Decides (same x y) (x ≡ y)) (hash : X → ℕ) where
  pub any_hash : (q : X) (qs : List X) → list_any (same q) qs ≡ true → has (map hash qs) (hash q) ≡ true
  any_hash q [] e = e
  any_hash q (r ∷ qs) e = by (same q r) refl e (any_hash q qs)
    where
      right : (a b : Bool) → b ≡ true → (a || b) ≡ true
      right true b e = refl
      right false b e = e

      by : (b : Bool) → same q r ≡ b → (b || list_any (same q) qs) ≡ true → (list_any (same q) qs ≡ true → has (map hash qs) (hash q) ≡ true)
          → (nat_eq (hash q) (hash r) || has (map hash qs) (hash q)) ≡ true
      by true f e ih = ap (λ b. b || has (map hash qs) (hash q)) (eq-eqb (hash q) (hash r) (ap hash ((decides q r).0 f)))
      by false f e ih = right (nat_eq (hash q) (hash r)) (has (map hash qs) (hash q)) (ih e)

  single_elements : (hs : List ℕ) (qs : List X) → ((h : ℕ) → is_repeated (map hash qs) h ≡ true → is_repeated hs h ≡ true)
      → IsWithoutRepeats same (filter (λ q. not (is_repeated hs (hash q))) qs)
  single_elements hs [] more = tt
  single_elements hs (x ∷ qs) more = by (is_repeated hs (hash x)) refl (single_elements hs qs later)
    where
      once : X → Bool
      once q = not (is_repeated hs (hash q))

      step : (h : ℕ) → is_repeated (map hash qs) h ≡ true → (b : Bool) → (if b then has (map hash qs) h else is_repeated (map hash qs) h) ≡ true
      step h e true = repeated_has (map hash qs) h e
      step h e false = e

      later : (h : ℕ) → is_repeated (map hash qs) h ≡ true → is_repeated hs h ≡ true
      later h e = more h (step h e (nat_eq h (hash x)))

      none : is_repeated hs (hash x) ≡ false → list_any (same x) (filter once qs) ≡ false
      none e = ⊎_elim
          (λ (t : list_any (same x) qs ≡ true).
          absurd (false≢true (sym e ∙ more (hash x) (ap (λ b. if b then has (map hash qs) (hash x) else is_repeated (map hash qs) (hash x)) (eq-eqb (hash x) (hash x) refl) ∙ any_hash x qs t))))
          (λ (t : list_any (same x) qs ≡ false).
          any-filter_is same decides once x qs ∙ ap (λ b. once x && b) t ∙ sym (none_and (once x)))
          (cases_Bool (list_any (same x) qs))

      by : (b : Bool) → is_repeated hs (hash x) ≡ b → IsWithoutRepeats same (filter once qs) → IsWithoutRepeats same (cond (not b) (x ∷ filter once qs) (filter once qs))
      by true e ih = ih
      by false e ih = (none e, ih)

  -- the elements whose hash occurs once are as many as those hashes; the others are distinct or not
  pub both_kinds : (Q : List X) → length (single (map hash Q)) + length (without_repeats same (filter (λ q. is_repeated (map hash Q) (hash q)) Q)) ≡ length (without_repeats same Q)
  both_kinds Q =
      let hs = map hash Q in
      let p : X → Bool = λ q. is_repeated hs (hash q) in
      let once : X → Bool = λ q. not (is_repeated hs (hash q)) in
      let all = without_repeats same Q in
      let sides : length (filter p all) + length (filter once all) ≡ length all = length-filter_both p once (λ q. refl) all in
      let repeats : length (without_repeats same (filter p Q)) ≡ length (filter p all) = part p in
      let others : length (without_repeats same (filter once Q)) ≡ length (filter once all) = part once in
      let alone : length (without_repeats same (filter once Q)) ≡ length (filter once Q) =
      length_of_set same decides (filter once Q) (filter once Q) (single_elements hs Q (λ h e. e)) (λ q. refl) in
      let hashed : length (single hs) ≡ length (filter once Q) =
      ap length (map-filter hash (λ h. not (is_repeated hs h)) Q) ∙ length-map (filter once Q) hash in
      omega (arith, sides, repeats, others, alone, hashed)
    where
      part : (r : X → Bool) → length (without_repeats same (filter r Q)) ≡ length (filter r (without_repeats same Q))
      part r =
          let all = without_repeats same Q in
          length_of_set same decides (filter r Q) (filter r all)
          (IsWithoutRepeats-filter same r all (IsWithoutRepeats-without_repeats same Q))
          (λ q. any-filter_is same decides r q Q ∙ ap (λ b. r q && b) (sym (any-without_repeats_is same decides q Q)) ∙ sym (any-filter_is same decides r q all))

-- ---- numbers that occur once

as_they_are : (xs : List ℕ) → map (λ n. n) xs ≡ xs
as_they_are [] = refl
as_they_are (x ∷ xs) = ap (λ l. x ∷ l) (as_they_are xs)

-- the numbers of a list, each once, are those that it has once and the others
pub singles_and_others : (xs all others : List ℕ) → IsWithoutRepeats nat_eq all → IsWithoutRepeats nat_eq others
    → ((n : ℕ) → list_any (nat_eq n) all ≡ has xs n) → ((n : ℕ) → list_any (nat_eq n) others ≡ is_repeated xs n)
    → length (single xs) + length others ≡ length all
singles_and_others xs all others once once' in_all in_others =
    let whole : length (without_repeats nat_eq xs) ≡ length all = length_of_set nat_eq Decides-eqb xs all once (λ n. sym (in_all n)) in
    let rest : length (without_repeats nat_eq (filter (is_repeated xs) xs)) ≡ length others =
    length_of_set nat_eq Decides-eqb (filter (is_repeated xs) xs) others once'
    (λ n. any-filter_is nat_eq Decides-eqb (is_repeated xs) n xs ∙ repeated_and_has xs n ∙ sym (in_others n)) in
    let both : length (single xs) + length (without_repeats nat_eq (filter (is_repeated xs) xs)) ≡ length (without_repeats nat_eq xs) =
    ap (λ l. length (single l) + length (without_repeats nat_eq (filter (is_repeated l) xs))) (sym (as_they_are xs)) ∙ both_kinds nat_eq Decides-eqb (λ n. n) xs in
    omega (arith, whole, rest, both)

-- ---- numbers in another order

has_count : (xs : List ℕ) (n : ℕ) → has xs n ≡ nat_lt 0 (count_by (nat_eq n) xs)
has_count [] n = refl
has_count (m ∷ xs) n = by (nat_eq n m) refl (has_count xs n)
  where
    by : (b : Bool) → nat_eq n m ≡ b → has xs n ≡ nat_lt 0 (count_by (nat_eq n) xs) → (b || has xs n) ≡ nat_lt 0 (count_by (nat_eq n) (m ∷ xs))
    by true e ih = sym (ap (nat_lt 0) (count_by-yes (nat_eq n) m xs e) ∙ lt-ltb 0 (1 + count_by (nat_eq n) xs) (omega arith))
    by false e ih = ih ∙ sym (ap (nat_lt 0) (count_by-no (nat_eq n) m xs e))

one_less : (c : ℕ) → nat_lt 1 (1 + c) ≡ nat_lt 0 c
one_less zero = le-ltb 1 (1 + zero) (omega arith) ∙ sym (le-ltb 0 zero (omega arith))
one_less (suc c) = lt-ltb 1 (1 + suc c) (omega arith) ∙ sym (lt-ltb 0 (suc c) (omega arith))

-- a number is at two places if it is counted twice
repeated_count : (xs : List ℕ) (n : ℕ) → is_repeated xs n ≡ nat_lt 1 (count_by (nat_eq n) xs)
repeated_count [] n = refl
repeated_count (m ∷ xs) n = by (nat_eq n m) refl (repeated_count xs n)
  where
    by : (b : Bool) → nat_eq n m ≡ b → is_repeated xs n ≡ nat_lt 1 (count_by (nat_eq n) xs)
        → (if b then has xs n else is_repeated xs n) ≡ nat_lt 1 (count_by (nat_eq n) (m ∷ xs))
    by true e ih = has_count xs n ∙ sym (ap (nat_lt 1) (count_by-yes (nat_eq n) m xs e) ∙ one_less (count_by (nat_eq n) xs))
    by false e ih = ih ∙ sym (ap (nat_lt 1) (count_by-no (nat_eq n) m xs e))

pub repeated_moved : (xs ys : List ℕ) → IsPermutation xs ys → (n : ℕ) → is_repeated ys n ≡ is_repeated xs n
repeated_moved xs ys moved n =
    repeated_count ys n ∙ ap (nat_lt 1) (count_by-IsPermutation (nat_eq n) xs ys moved) ∙ sym (repeated_count xs n)

pub length_single : (xs ys : List ℕ) → IsPermutation xs ys → length (single ys) ≡ length (single xs)
length_single xs ys moved =
    (λ i. length (filter (λ n. not (repeated_moved xs ys moved n i)) ys))
    ∙ length_permutation (single xs) (filter (λ n. not (is_repeated xs n)) ys) (IsPermutation-filter nat_eq Decides-eqb (λ n. not (is_repeated xs n)) xs ys moved)

-- ---- ascending numbers

-- no number of the front is this one, if each is below
none_equal : (xs : List ℕ) (m x : ℕ) → m ≤ length xs → ((j : ℕ) → j < m → get_or xs j 0 < x) → has (take m xs) x ≡ false
none_equal xs zero x low below = refl
none_equal xs (suc m) x low below =
    let next : suc m ≡ m + 1 = omega arith in
    let last = below m (omega arith) in
    let apart : nat_eq x (get_or xs m 0) ≡ false = ne_eqb x (get_or xs m 0) (λ e. absurd (omega (arith, e, last))) in
    ap (λ l. has l x) (ap (λ k. take k xs) next ∙ take_more xs m 0 (omega arith)) ∙ sym (pushed_has (take m xs) (get_or xs m 0) x)
    ∙ (λ i. none_equal xs m x (omega arith) (λ j less. below j (omega arith)) i || apart i)

less_than : (a b c : ℕ) → a ≤ b → b ≤ c → (c ≡ b → ⊥) → a < c
less_than a b c h k other = ⊎_elim
    (λ (same : c ≡ b). absurd (other same))
    (λ (apart : c ≡ b → ⊥). omega (arith, apart))
    (cases_eq c b)

-- a number is among those before it if it is the last one of them
pub seen_before : (xs : List ℕ) (i j : ℕ) → IsSorted nat_cmp xs → i ≡ j + 1 → i < length xs → has (take i xs) (get_or xs i 0) ≡ nat_eq (get_or xs i 0) (get_or xs j 0)
seen_before xs i j sorted after low =
    ap (λ l. has l x) (ap (λ k. take k xs) after ∙ take_more xs j 0 (omega arith)) ∙ sym (pushed_has (take j xs) y x) ∙ by (nat_eq x y) refl
  where
    x : ℕ
    x = get_or xs i 0

    y : ℕ
    y = get_or xs j 0

    up : IsNonDecreasing xs
    up = IsNonDecreasingBy-from_sort (λ n. n) xs sorted

    last : (b : Bool) → (b || true) ≡ true
    last true = refl
    last false = refl

    by : (b : Bool) → nat_eq x y ≡ b → (has (take j xs) x || b) ≡ b
    by true e = last (has (take j xs) x)
    by false e =
        let most : y ≤ x = up j i 0 (omega arith) low in
        let other : x ≡ y → ⊥ = λ same. false≢true (sym e ∙ eq-eqb x y same) in
        ap (λ b. b || false) (none_equal xs j x (omega arith) (λ m less.
        let below : get_or xs m 0 ≤ y = up m j 0 (omega arith) (omega arith) in
        less_than (get_or xs m 0) y x below most other))

-- without its repeats an ascending list is the list of its different numbers
pub sorted_once : (xs : List ℕ) → IsSorted nat_cmp xs → IsPermutation (without_repeats nat_eq xs) (dedup nat_eq xs)
sorted_once xs sorted = dedup_once nat_eq Decides-eqb nat_cmp nat_cmp_total (λ x y. sym (nat_ties x y)) xs sorted
