-- Lists of numbers are read in one way only.
use Rattle.std.proofs.Common.{◌≡◌, ℕ, ◌<◌, ◌≤◌, ◌^◌, Bool, true, false, if◌then◌else◌, nat_lt, List, [], ◌∷◌, ◌++◌, length, get_or, drop, refl, sym, ap, subst, ◌∙◌, arith, length-append}
use Rattle.std.specs.Prelude.{fold, max}
use Rattle.std.specs.List.{All}
use Rattle.std.proofs.lemmas.Bool.{ltb-true}
use Rattle.std.proofs.lemmas.List.Elements.{All-cons, All-head, All-nil, All-tail}
use Rattle.byteorder.specs.Endian.{little_bytes, little_number}
use Rattle.byteorder.specs.Numbers.{length-bytes_low_first, little_number-reads_back}
use Rattle.cluster_parts.specs.NumberList.{FitInEightBytes, byte_count, difference, differences, in_bytes, number_list, width}

-- ---- lists that begin with the same number of elements

pub split_same : (xs ys a b : List ℕ) → length xs ≡ length ys → xs ++ a ≡ ys ++ b → (xs ≡ ys) × (a ≡ b)
split_same [] [] a b e f = (refl, f)
split_same [] (y ∷ ys) a b e f = absurd (omega (arith, e))
split_same (x ∷ xs) [] a b e f = absurd (omega (arith, e))
split_same (x ∷ xs) (y ∷ ys) a b e f =
    let h = split_same xs ys a b (omega (arith, e)) (ap (λ l. drop 1 l) f) in
    ((λ i. get_or (f i) 0 0 ∷ h.0 i), h.1)

-- ---- lists of numbers

-- a number fits into its bytes
fits_or : (n k m : ℕ) → n < 256 ^ m → n < 256 ^ (if nat_lt n (256 ^ k) then k else m)
fits_or n k m low = by (nat_lt n (256 ^ k)) refl
  where
    by : (b : Bool) → nat_lt n (256 ^ k) ≡ b → n < 256 ^ (if b then k else m)
    by true e = ltb-true n (256 ^ k) e
    by false e = low

count_fits : (n : ℕ) → n < 2 ^ 64 → n < 256 ^ byte_count n
count_fits n low = fits_or n 1 _ (fits_or n 2 _ (fits_or n 3 _ (fits_or n 4 _ (fits_or n 5 _ (fits_or n 6 _ (fits_or n 7 8 (omega (arith, low))))))))

-- the largest number
above_start : (a : ℕ) (xs : List ℕ) → a ≤ fold max a xs
above_start a [] = omega arith
above_start a (x ∷ xs) = omega (arith, above_start (max a x) xs)

above_all : (a : ℕ) (xs : List ℕ) → All (λ x. x ≤ fold max a xs) xs
above_all a [] = All-nil (λ x. x ≤ a)
above_all a (x ∷ xs) =
    let top = fold max (max a x) xs in
    All-cons (λ y. y ≤ top) x xs (omega (arith, above_start (max a x) xs)) (above_all (max a x) xs)

largest_fits : (a : ℕ) (xs : List ℕ) → a < 2 ^ 64 → FitInEightBytes xs → fold max a xs < 2 ^ 64
largest_fits a [] low fit = low
largest_fits a (x ∷ xs) low fit = largest_fits (max a x) xs (omega (arith, low, All-head (λ n. n < 2 ^ 64) x xs fit)) (All-tail (λ n. n < 2 ^ 64) x xs fit)

all_below : (m n : ℕ) (xs : List ℕ) → m < n → All (λ x. x ≤ m) xs → All (λ x. x < n) xs
all_below m n [] low h = All-nil (λ x. x < n)
all_below m n (x ∷ xs) low h =
    All-cons (λ y. y < n) x xs (omega (arith, low, All-head (λ y. y ≤ m) x xs h)) (all_below m n xs low (All-tail (λ y. y ≤ m) x xs h))

pub width_fits : (xs : List ℕ) → FitInEightBytes xs → All (λ x. x < 256 ^ width xs) xs
unfolding width
width_fits xs fit =
    let top = fold max 0 xs in
    all_below top (256 ^ byte_count top) xs (count_fits top (largest_fits 0 xs (omega arith) fit)) (above_all 0 xs)

pub in_bytes_same : (k : ℕ) (xs ys : List ℕ) → 0 < k → All (λ x. x < 256 ^ k) xs → All (λ y. y < 256 ^ k) ys → in_bytes k xs ≡ in_bytes k ys → xs ≡ ys
in_bytes_same k [] [] some fit fit' e = refl
in_bytes_same k [] (y ∷ ys) some fit fit' e = absurd (omega (arith, some, ap length e, length-append (little_bytes k y) (in_bytes k ys), length-bytes_low_first 0 k y))
in_bytes_same k (x ∷ xs) [] some fit fit' e = absurd (omega (arith, some, ap length e, length-append (little_bytes k x) (in_bytes k xs), length-bytes_low_first 0 k x))
in_bytes_same k (x ∷ xs) (y ∷ ys) some fit fit' e =
    let h = split_same (little_bytes k x) (little_bytes k y) (in_bytes k xs) (in_bytes k ys) (length-bytes_low_first 0 k x ∙ sym (length-bytes_low_first 0 k y)) e in
    let back = λ (n : ℕ) (low : n < 256 ^ k). little_number-reads_back k n [] low in
    let first : x ≡ y =
    sym (back x (All-head (λ n. n < 256 ^ k) x xs fit)) ∙ ap (λ l. little_number k (l ++ [])) h.0 ∙ back y (All-head (λ n. n < 256 ^ k) y ys fit') in
    let others = in_bytes_same k xs ys some (All-tail (λ n. n < 256 ^ k) x xs fit) (All-tail (λ n. n < 256 ^ k) y ys fit') h.1 in
    (λ i. first i ∷ others i)

difference_fits : (before n : ℕ) → difference before n < 2 ^ 64
difference_fits before n = omega arith

pub differences_fit : (before : ℕ) (xs : List ℕ) → FitInEightBytes (differences before xs)
differences_fit before [] = All-nil (λ n. n < 2 ^ 64)
differences_fit before (x ∷ xs) = All-cons (λ n. n < 2 ^ 64) (difference before x) (differences x xs) (difference_fits before x) (differences_fit x xs)

difference_same : (before x y : ℕ) → before < 2 ^ 64 → x < 2 ^ 64 → y < 2 ^ 64 → difference before x ≡ difference before y → x ≡ y
difference_same before x y low low_x low_y e = omega (arith, low, low_x, low_y, e)

differences_same : (before : ℕ) (xs ys : List ℕ) → before < 2 ^ 64 → FitInEightBytes xs → FitInEightBytes ys → differences before xs ≡ differences before ys → xs ≡ ys
differences_same before [] [] low fit fit' e = refl
differences_same before [] (y ∷ ys) low fit fit' e = absurd (omega (arith, ap length e))
differences_same before (x ∷ xs) [] low fit fit' e = absurd (omega (arith, ap length e))
differences_same before (x ∷ xs) (y ∷ ys) low fit fit' e =
    let low_x = All-head (λ n. n < 2 ^ 64) x xs fit in
    let first : x ≡ y = difference_same before x y low low_x (All-head (λ n. n < 2 ^ 64) y ys fit') (ap (λ l. get_or l 0 0) e) in
    let others = differences_same x xs ys low_x (All-tail (λ n. n < 2 ^ 64) x xs fit) (All-tail (λ n. n < 2 ^ 64) y ys fit') (ap (drop 1) e ∙ ap (λ b. differences b ys) (sym first)) in
    (λ i. first i ∷ others i)

some_or : (n k m : ℕ) → 0 < k → 0 < m → 0 < (if nat_lt n (256 ^ k) then k else m)
some_or n k m a b = by (nat_lt n (256 ^ k))
  where
    by : (c : Bool) → 0 < (if c then k else m)
    by true = a
    by false = b

count_some : (n : ℕ) → 0 < byte_count n
count_some n =
    some_or n 1 _ (omega arith) (some_or n 2 _ (omega arith) (some_or n 3 _ (omega arith) (some_or n 4 _ (omega arith)
    (some_or n 5 _ (omega arith) (some_or n 6 _ (omega arith) (some_or n 7 8 (omega arith) (omega arith)))))))

pub width_some : (xs : List ℕ) → 0 < width xs
unfolding width
width_some xs = count_some (fold max 0 xs)

most_or : (n k m : ℕ) → k ≤ 8 → m ≤ 8 → (if nat_lt n (256 ^ k) then k else m) ≤ 8
most_or n k m a b = by (nat_lt n (256 ^ k))
  where
    by : (c : Bool) → (if c then k else m) ≤ 8
    by true = a
    by false = b

count_most : (n : ℕ) → byte_count n ≤ 8
count_most n =
    most_or n 1 _ (omega arith) (most_or n 2 _ (omega arith) (most_or n 3 _ (omega arith) (most_or n 4 _ (omega arith)
    (most_or n 5 _ (omega arith) (most_or n 6 _ (omega arith) (most_or n 7 8 (omega arith) (omega arith)))))))

pub width_most : (xs : List ℕ) → width xs ≤ 8
unfolding width
width_most xs = count_most (fold max 0 xs)

-- numbers are read in one way only
pub found_same : (f g : List ℕ) → FitInEightBytes f → FitInEightBytes g → width f ∷ in_bytes (width f) f ≡ width g ∷ in_bytes (width g) g → f ≡ g
found_same f g fit fit' e =
    let same : width f ≡ width g = ap (λ l. get_or l 0 0) e in
    in_bytes_same (width g) f g (width_some g) (subst (λ k. All (λ n. n < 256 ^ k) f) same (width_fits f fit)) (width_fits g fit')
    (ap (λ k. in_bytes k f) (sym same) ∙ ap (drop 1) e)

pub numbers_same : (xs ys : List ℕ) → FitInEightBytes xs → FitInEightBytes ys → number_list xs ≡ number_list ys → xs ≡ ys
unfolding number_list
numbers_same xs ys fit fit' e =
    differences_same 0 xs ys (omega arith) fit fit' (found_same (differences 0 xs) (differences 0 ys) (differences_fit 0 xs) (differences_fit 0 ys) e)
