-- Lists of numbers are written and read as texts.
use Rattle.std.proofs.Common.{◌≡◌, ℕ, zero, suc, ◌+◌, ◌-◌, ◌<◌, ◌≤◌, List, [], ◌∷◌, ◌++◌, length, get_or, take, drop, replicate, refl, sym, ap, subst, ◌∙◌, arith, append_assoc, append-nil, length-append}
use Rattle.std.specs.Int.{w64, from_le_bytes, to_le_bytes}
use Rattle.std.proofs.lemmas.Grind.{flat_map-append}
use Rattle.std.proofs.lemmas.List.{length-replicate, take-append-drop, take-append-le, take_all, take_more}
use Rattle.std.proofs.lemmas.Nat.{le_bytes_8}
use Rattle.byteorder.specs.Endian.{little_bytes, little_from, little_number}
use Rattle.byteorder.proofs.Bytes.{little_from-zeros_after, take-bytes_low_first}
use Rattle.cluster_parts.specs.Hash.{number_bytes}
use Rattle.cluster_parts.specs.NumberList.{difference, differences, in_bytes, number_list, width}

-- ---- numbers in bytes

zeros_small : (m i : ℕ) → get_or (replicate m 0) i 0 < 256
zeros_small zero i = omega arith
zeros_small (suc m) zero = omega arith
zeros_small (suc m) (suc i) = zeros_small m i

filled_small : (ys : List ℕ) (m : ℕ) → ((i : ℕ) → get_or ys i 0 < 256) → (i : ℕ) → get_or (ys ++ replicate m 0) i 0 < 256
filled_small [] m small i = zeros_small m i
filled_small (y ∷ ys) m small zero = small 0
filled_small (y ∷ ys) m small (suc i) = filled_small ys m (λ j. small (suc j)) i

-- the bytes of a number that was read
pub written_back : (k : ℕ) (ys : List ℕ) → k ≤ 8 → length ys ≡ k → ((i : ℕ) → get_or ys i 0 < 256) → little_bytes k (little_number k ys) ≡ ys
written_back k ys most long small =
    let bs = ys ++ replicate (8 - k) 0 in
    let n = little_number k ys in
    let filled : length bs ≡ 8 = omega (arith, most, long, length-append ys (replicate (8 - k) 0), length-replicate {A = ℕ} (8 - k) 0) in
    let whole : from_le_bytes w64 bs ≡ little_from 0 8 bs = omega arith in
    let is : n ≡ from_le_bytes w64 bs =
    sym (whole ∙ little_from-zeros_after ys (8 - k) 8 (omega (arith, most, long)) ∙ ap (λ m. little_from 0 m ys) long) in
    let all : to_le_bytes w64 n ≡ bs = le_bytes_8 bs n filled (filled_small ys (8 - k) small) is in
    sym (take-bytes_low_first 0 8 k n most) ∙ ap (take k) all ∙ take-append-le k ys (replicate (8 - k) 0) (omega (arith, long)) ∙ take_all k ys (omega (arith, long))

pub small_take : (n : ℕ) (xs : List ℕ) → ((i : ℕ) → get_or xs i 0 < 256) → (i : ℕ) → get_or (take n xs) i 0 < 256
small_take zero xs h i = omega arith
small_take (suc n) [] h i = omega arith
small_take (suc n) (x ∷ xs) h zero = h 0
small_take (suc n) (x ∷ xs) h (suc i) = small_take n xs (λ j. h (suc j)) i

pub first_number : (k : ℕ) (bytes front back : List ℕ) → k ≤ 8 → ((i : ℕ) → get_or bytes i 0 < 256) → front ≡ take k bytes → back ≡ drop k bytes → length front ≡ k
    → (n : ℕ) → n ≡ little_number k front → bytes ≡ little_bytes k n ++ back
first_number k bytes front back most small f b long n is =
    let again : little_bytes k n ≡ front =
    ap (little_bytes k) is ∙ written_back k front most long (subst (λ l. (i : ℕ) → get_or l i 0 < 256) (sym f) (small_take k bytes small)) in
    sym ((λ i. f i ++ b i) ∙ take-append-drop k bytes) ∙ ap (λ l. l ++ back) (sym again)

-- a number in eight bytes
pub eight_bytes : (n : ℕ) → little_bytes 8 n ≡ number_bytes n
unfolding number_bytes
eight_bytes n = refl

-- one more number is written
pub one_more_in_bytes : (k : ℕ) (numbers : List ℕ) (i : ℕ) (before out out' bytes : List ℕ) → k ≤ 8 → i < length numbers → bytes ≡ to_le_bytes w64 (get_or numbers i 0)
    → out ≡ before ++ in_bytes k (take i numbers) → out' ≡ out ++ take k bytes → out' ≡ before ++ in_bytes k (take (i + 1) numbers)
one_more_in_bytes k numbers i before out out' bytes most low is was wrote =
    let n = get_or numbers i 0 in
    let first = take i numbers in
    let written : take k bytes ≡ in_bytes k (n ∷ []) = ap (take k) is ∙ take-bytes_low_first 0 8 k n most ∙ sym (append-nil (little_bytes k n)) in
    wrote ∙ (λ j. was j ++ written j) ∙ append_assoc before (in_bytes k first) (in_bytes k (n ∷ []))
    ∙ ap (λ l. before ++ l) (sym (flat_map-append (little_bytes k) first (n ∷ [])) ∙ ap (in_bytes k) (sym (take_more numbers i 0 low)))

-- the text of a list
pub list_written : (numbers found : List ℕ) (count : ℕ) (out out' out'' : List ℕ) → found ≡ differences 0 numbers → count ≡ width found → out' ≡ out ++ count ∷ []
    → out'' ≡ out' ++ in_bytes count found → out'' ≡ out ++ number_list numbers
unfolding number_list
list_written numbers found count out out' out'' are is first others =
    others ∙ ap (λ l. l ++ in_bytes count found) first ∙ append_assoc out (count ∷ []) (in_bytes count found)
    ∙ ap (λ k. out ++ k ∷ in_bytes k found) is ∙ ap (λ l. out ++ width l ∷ in_bytes (width l) l) are

pub list_read : (bytes found numbers : List ℕ) → bytes ≡ width found ∷ in_bytes (width found) found → differences 0 numbers ≡ found → bytes ≡ number_list numbers
unfolding number_list
list_read bytes found numbers read are = read ∙ ap (λ l. width l ∷ in_bytes (width l) l) (sym are)

-- ---- differences

-- one more number is read
pub one_more_sum : (more found : List ℕ) (i before n : ℕ) → i < length found → difference before n ≡ get_or found i 0
    → ((rest : List ℕ) → differences 0 (more ++ rest) ≡ take i found ++ differences before rest)
    → (rest : List ℕ) → differences 0 ((more ++ n ∷ []) ++ rest) ≡ take (i + 1) found ++ differences n rest
one_more_sum more found i before n low is was rest =
    ap (differences 0) (append_assoc more (n ∷ []) rest) ∙ was (n ∷ rest) ∙ ap (λ d. take i found ++ d ∷ differences n rest) is
    ∙ sym (append_assoc (take i found) (get_or found i 0 ∷ []) (differences n rest))
    ∙ ap (λ l. l ++ differences n rest) (sym (take_more found i 0 low))
