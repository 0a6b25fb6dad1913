-- Why bytes are not read: they are not what they have to be.
use Rattle.std.proofs.Common.{◌≡◌, ℕ, zero, suc, ◌+◌, ◌/◌, ◌%◌, ◌<◌, ◌≤◌, ◌^◌, ◌==◌, Bool, false, List, [], ◌∷◌, ◌++◌, length, map, get_or, take, drop, IsSorted, refl, sym, ap, subst, ◌∙◌, ◌⊎◌, ⊎_elim, arith, true≢false, append_assoc, append-nil, length-append, mod-lt, le-ltb}
use Rattle.std.specs.Prelude.{Err, IfErr, Ok, Result, ⊤}
use Rattle.std.specs.Result.{IsErrAnd}
use Rattle.std.specs.List.{All}
use Rattle.std.specs.Ordering.{is_lt, nat_cmp}
use Rattle.std.proofs.Math.Nat.{one-le-pow, pow-le-pow_right}
use Rattle.std.proofs.lemmas.Grind.{flat_map-append}
use Rattle.std.proofs.lemmas.List.{append_cancel_left, get_or-map, length-map}
use Rattle.std.proofs.lemmas.List.Elements.{All-head, All-tail, All-weaker}
use Rattle.std.proofs.lemmas.Map.Keys.{ge_from_not_lt}
use Rattle.core.proofs.slice.Orders.{nat_cmp-ltb}
use Rattle.byteorder.specs.Endian.{little_bytes, little_number}
use Rattle.byteorder.specs.Numbers.{length-bytes_low_first, little_from-bytes}
use Rattle.cluster_parts.specs.Hash.{hash, number_bytes}
use Rattle.cluster_parts.specs.Input.{AreAscending, AreListAndMarks, AreSealedLists, BeginWithLists}
use Rattle.cluster_parts.specs.Known.{AreDifferences, BeginsChecked, BeginsSealed, HaveSums, IsDamageOf, IsListText}
use Rattle.cluster_parts.specs.NumberList.{FitInEightBytes, difference, differences, in_bytes, number_list, width}
use Rattle.cluster_parts.specs.Output.{IsKept}
use Rattle.cluster_parts.specs.Repeated.{numbers_of}
use Rattle.cluster_parts.specs.Seal.{AreSealed, HasNoHead, HasOtherHead, IsFaultOf, all_sealed, seal_head, sealed}
use Rattle.cluster_parts.specs.declared.sealing.SealFault.{SealFault}
use Rattle.cluster_parts.specs.declared.sealing.SealFault.TheVariants.{Version, Damaged, Memory}
use Rattle.cluster_parts.proofs.NumberListLaws.{differences_fit, found_same, in_bytes_same, split_same, width_fits, width_most, width_some}
use Rattle.cluster_parts.proofs.NumberListSteps.{small_take, written_back}
use Rattle.cluster_parts.proofs.SealLaws.{first_same, front_fits, long, number_long, number_same, opened, seals_are_unique}

-- ---- faults of a part are faults of the whole

pub damage_of : (Whole Part : Type 0) (fault : SealFault) → (Whole → Part) → IsDamageOf Part fault → IsDamageOf Whole fault
damage_of Whole Part Version f h = h
damage_of Whole Part Damaged f h = λ w. h (f w)
damage_of Whole Part Memory f h = tt

pub damaged : (Whole : Type 0) (fault : SealFault) → fault ≡ Damaged → (Whole → ⊥) → IsDamageOf Whole fault
damaged Whole fault is other = subst (IsDamageOf Whole) (sym is) other

other_after : (texts : List (List ℕ)) (bytes rest : List ℕ) → bytes ≡ all_sealed texts ++ rest → HasOtherHead rest → HasOtherHead bytes
other_after texts bytes rest read h = record {
  texts = texts ++ h.texts;
  rest = h.rest;
  read = read ∙ ap (λ l. all_sealed texts ++ l) h.read ∙ sym (append_assoc (all_sealed texts) (all_sealed h.texts) h.rest)
      ∙ ap (λ l. l ++ h.rest) (sym (flat_map-append sealed texts h.texts));
  other = h.other;
}

pub fault_of : (Whole Part : Type 0) (texts : List (List ℕ)) (bytes rest : List ℕ) (fault : SealFault) → bytes ≡ all_sealed texts ++ rest → (Whole → Part) → IsFaultOf Part rest fault → IsFaultOf Whole bytes fault
fault_of Whole Part texts bytes rest Version read f h = (other_after texts bytes rest read h.0, λ w. h.1 (f w))
fault_of Whole Part texts bytes rest Damaged read f h = λ w. h (f w)
fault_of Whole Part texts bytes rest Memory read f h = tt

pub fault_of_damage : (Whole Part : Type 0) (bytes : List ℕ) (fault : SealFault) → (Whole → Part) → IsDamageOf Part fault → IsFaultOf Whole bytes fault
fault_of_damage Whole Part bytes Version f h = absurd h
fault_of_damage Whole Part bytes Damaged f h = λ w. h (f w)
fault_of_damage Whole Part bytes Memory f h = tt

pub damaged_at : (Whole : Type 0) (bytes : List ℕ) (fault : SealFault) → fault ≡ Damaged → (Whole → ⊥) → IsFaultOf Whole bytes fault
damaged_at Whole bytes fault is other = subst (IsFaultOf Whole bytes) (sym is) other

-- the fault of a call, handed on
pub handed_on : {T : Type 0} (result : Result T SealFault) (fault : SealFault) (P : SealFault → Type 0) → IsErrAnd result (λ f. f ≡ fault) → P fault → IfErr result P
handed_on (Ok x) fault P h p = tt
handed_on (Err f) fault P h p = subst P (sym h) p

-- ---- a sealed text

pub no_head : (bytes : List ℕ) (fault : SealFault) → fault ≡ Version → HasNoHead bytes → IsFaultOf (BeginsSealed bytes) bytes fault
no_head bytes fault is other =
    subst (IsFaultOf (BeginsSealed bytes) bytes) (sym is) (
      record { texts = []; rest = bytes; read = refl; other = other },
      λ w. other (number_bytes (length w.0) ++ (number_bytes (hash w.0) ++ (w.0 ++ w.1))) (w.2 ∙ opened w.0 w.1),
    )

after_head : (bytes first : List ℕ) → bytes ≡ seal_head ++ first → (w : BeginsSealed bytes) → first ≡ number_bytes (length w.0) ++ (number_bytes (hash w.0) ++ (w.0 ++ w.1))
after_head bytes first is w = append_cancel_left seal_head _ _ (sym is ∙ w.2 ∙ opened w.0 w.1)

numbers_first : (m n : ℕ) (xs ys : List ℕ) → number_bytes m ++ xs ≡ number_bytes n ++ ys → (number_bytes m ≡ number_bytes n) × (xs ≡ ys)
numbers_first m n xs ys e = split_same (number_bytes m) (number_bytes n) xs ys (number_long m ∙ sym (number_long n)) e

number_inside : (n : ℕ) (xs ys : List ℕ) → xs ≡ number_bytes n ++ ys → 8 ≤ length xs
number_inside n xs ys e = omega (arith, ap length e, length-append (number_bytes n) ys, number_long n)

-- the length is missing
pub no_length : (bytes first : List ℕ) → bytes ≡ seal_head ++ first → length first < 8 → BeginsSealed bytes → ⊥
no_length bytes first is short w =
    omega (arith, short, number_inside (length w.0) first (number_bytes (hash w.0) ++ (w.0 ++ w.1)) (after_head bytes first is w))

after_length : (bytes first second : List ℕ) (len : ℕ) → bytes ≡ seal_head ++ first → first ≡ number_bytes len ++ second → (w : BeginsSealed bytes)
    → (number_bytes len ≡ number_bytes (length w.0)) × (second ≡ number_bytes (hash w.0) ++ (w.0 ++ w.1))
after_length bytes first second len is next w =
    numbers_first len (length w.0) second (number_bytes (hash w.0) ++ (w.0 ++ w.1)) (sym next ∙ after_head bytes first is w)

-- the checksum is missing
pub no_checksum : (bytes first second : List ℕ) (len : ℕ) → bytes ≡ seal_head ++ first → first ≡ number_bytes len ++ second → length second < 8 → BeginsSealed bytes → ⊥
no_checksum bytes first second len is next short w =
    omega (arith, short, number_inside (hash w.0) second (w.0 ++ w.1) (after_length bytes first second len is next w).1)

-- a text with this length and this checksum comes next
pub checked_next : (bytes first second third : List ℕ) (len checksum : ℕ) → bytes ≡ seal_head ++ first → first ≡ number_bytes len ++ second → second ≡ number_bytes checksum ++ third
    → BeginsSealed bytes → BeginsChecked len checksum third
checked_next bytes first second third len checksum is next last w =
    let e = after_length bytes first second len is next w in
    let f = numbers_first checksum (hash w.0) third (w.0 ++ w.1) (sym last ∙ e.1) in
    (w.0, w.1, f.1, e.0, f.0)

same_length : (len checksum : ℕ) (bytes : List ℕ) → len < 2 ^ 64 → length bytes < 2 ^ 64 → (w : BeginsChecked len checksum bytes) → len ≡ length w.0
same_length len checksum bytes low long w =
    number_same len (length w.0) low (omega (arith, long, ap length w.2, length-append w.0 w.1)) w.3

-- the text is too short
pub too_short : (len checksum : ℕ) (bytes : List ℕ) → len < 2 ^ 64 → length bytes < 2 ^ 64 → length bytes < len → BeginsChecked len checksum bytes → ⊥
too_short len checksum bytes low long short w =
    omega (arith, short, same_length len checksum bytes low long w, ap length w.2, length-append w.0 w.1)

-- the text has this checksum
pub same_checksum : (len checksum : ℕ) (bytes text after : List ℕ) → len < 2 ^ 64 → checksum < 2 ^ 64 → length bytes < 2 ^ 64 → hash text < 2 ^ 64
    → bytes ≡ text ++ after → len ≡ length text → BeginsChecked len checksum bytes → hash text ≡ checksum
same_checksum len checksum bytes text after low low_sum long low_hash is len_is w =
    let lens = same_length len checksum bytes low long w in
    let same : text ≡ w.0 = (split_same text w.0 after w.1 (sym len_is ∙ lens) (sym is ∙ w.2)).0 in
    ap hash same ∙ sym (number_same checksum (hash w.0) low_sum (subst (λ t. hash t < 2 ^ 64) same low_hash) w.4)

-- ---- the next of some sealed texts

some_left : (xs : List ℕ) (b : Bool) → b ≡ (length xs == 0) → b ≡ false → 0 < length xs
some_left [] b e f = absurd (true≢false (sym e ∙ f))
some_left (x ∷ xs) b e f = omega arith

shorter_now : (t : List ℕ) (ts : List (List ℕ)) (rest : List ℕ) → length (all_sealed (t ∷ ts) ++ rest) < 2 ^ 64 → length (sealed t ++ (all_sealed ts ++ rest)) < 2 ^ 64
shorter_now t ts rest low = omega (arith, low, ap length (append_assoc (sealed t) (all_sealed ts) rest))

next_text : (texts others : List (List ℕ)) (rest rest' : List ℕ) → length (all_sealed texts ++ rest) < 2 ^ 64 → all_sealed texts ++ rest ≡ all_sealed others ++ rest' → length texts < length others
    → (after : List ℕ) × (rest ≡ sealed (get_or others (length texts) []) ++ after)
next_text [] [] rest rest' low e less = absurd (omega (arith, less))
next_text (t ∷ ts) [] rest rest' low e less = absurd (omega (arith, less))
next_text [] (o ∷ os) rest rest' low e less = (all_sealed os ++ rest', e ∙ append_assoc (sealed o) (all_sealed os) rest')
next_text (t ∷ ts) (o ∷ os) rest rest' low e less =
    let low' = shorter_now t ts rest low in
    let h = first_same t o (all_sealed ts ++ rest) (all_sealed os ++ rest') low' (sym (append_assoc (sealed t) (all_sealed ts) rest) ∙ e ∙ append_assoc (sealed o) (all_sealed os) rest') in
    next_text ts os rest rest' (omega (arith, low', long t (all_sealed ts ++ rest))) h.1 (omega (arith, less))

text_left : (texts others : List (List ℕ)) (rest : List ℕ) → length (all_sealed texts ++ rest) < 2 ^ 64 → all_sealed texts ++ rest ≡ all_sealed others → 0 < length rest → length texts < length others
text_left [] [] rest low e some = absurd (omega (arith, some, ap length e))
text_left [] (o ∷ os) rest low e some = omega arith
text_left (t ∷ ts) [] rest low e some =
    absurd (omega (arith, ap length e, ap length (append_assoc (sealed t) (all_sealed ts) rest), long t (all_sealed ts ++ rest)))
text_left (t ∷ ts) (o ∷ os) rest low e some =
    let low' = shorter_now t ts rest low in
    let h = first_same t o (all_sealed ts ++ rest) (all_sealed os) low' (sym (append_assoc (sealed t) (all_sealed ts) rest) ∙ e) in
    let others = text_left ts os rest (omega (arith, low', long t (all_sealed ts ++ rest))) h.1 some in
    omega (arith, others)

sealed_on : (texts : List (List ℕ)) (bytes rest : List ℕ) → length bytes < 2 ^ 64 → bytes ≡ all_sealed texts ++ rest → 0 < length rest → AreSealed bytes → BeginsSealed rest
sealed_on texts bytes rest low read some w =
    let low' : length (all_sealed texts ++ rest) < 2 ^ 64 = omega (arith, low, ap length read) in
    let e = sym read ∙ w.1 in
    let next = next_text texts w.0 rest [] low' (e ∙ sym (append-nil (all_sealed w.0))) (text_left texts w.0 rest low' e some) in
    (get_or w.0 (length texts) [], next.0, next.1)

-- the rest does not begin with a sealed text
pub text_fault : (texts : List (List ℕ)) (bytes rest : List ℕ) (b : Bool) (fault : SealFault) → length bytes < 2 ^ 64 → bytes ≡ all_sealed texts ++ rest → b ≡ (length rest == 0) → b ≡ false
    → IsFaultOf (BeginsSealed rest) rest fault → IsFaultOf (AreSealed bytes) bytes fault
text_fault texts bytes rest b fault low read is some h =
    fault_of (AreSealed bytes) (BeginsSealed rest) texts bytes rest fault read (sealed_on texts bytes rest low read (some_left rest b is some)) h

-- ---- numbers in bytes

-- a number that was read from this many bytes
pub number_fits : (k : ℕ) (bytes front : List ℕ) → k ≤ 8 → ((i : ℕ) → get_or bytes i 0 < 256) → front ≡ take k bytes → length front ≡ k → (n : ℕ) → n ≡ little_number k front → n < 256 ^ k
number_fits k bytes front most small f long n is =
    let again : little_bytes k n ≡ front =
    ap (little_bytes k) is ∙ written_back k front most long (subst (λ l. (i : ℕ) → get_or l i 0 < 256) (sym f) (small_take k bytes small)) in
    let whole : n ≡ n / 256 ^ 0 % 256 ^ k = is ∙ ap (little_number k) (sym again ∙ sym (append-nil (little_bytes k n))) ∙ little_from-bytes k 0 n [] in
    let some : 0 < 256 ^ k = omega (arith, one-le-pow k 256 (omega arith)) in
    subst (λ m. m < 256 ^ k) (sym whole) (mod-lt (n / 256 ^ 0) some)

pub one_more_read : (k : ℕ) (numbers numbers' bytes rest after : List ℕ) (n : ℕ) → bytes ≡ in_bytes k numbers ++ rest → rest ≡ little_bytes k n ++ after → numbers' ≡ numbers ++ n ∷ []
    → bytes ≡ in_bytes k numbers' ++ after
one_more_read k numbers numbers' bytes rest after n all first pushed =
    all ∙ ap (λ l. in_bytes k numbers ++ l) first ∙ sym (append_assoc (in_bytes k numbers) (little_bytes k n) after)
    ∙ ap (λ l. l ++ after) (ap (λ l. in_bytes k numbers ++ l) (sym (append-nil (little_bytes k n))) ∙ sym (flat_map-append (little_bytes k) numbers (n ∷ [])) ∙ ap (in_bytes k) (sym pushed))

-- the bytes that are left are too few for a number
bytes_left : (k : ℕ) (xs ys rest : List ℕ) → 0 < length rest → length rest < k → in_bytes k xs ++ rest ≡ in_bytes k ys → ⊥
bytes_left k [] [] rest some short e = omega (arith, some, ap length e)
bytes_left k [] (y ∷ ys) rest some short e =
    omega (arith, short, ap length e, length-append (little_bytes k y) (in_bytes k ys), length-bytes_low_first 0 k y)
bytes_left k (x ∷ xs) [] rest some short e = omega (arith, some, ap length e, length-append (in_bytes k (x ∷ xs)) rest)
bytes_left k (x ∷ xs) (y ∷ ys) rest some short e =
    let h = split_same (little_bytes k x) (little_bytes k y) (in_bytes k xs ++ rest) (in_bytes k ys) (length-bytes_low_first 0 k x ∙ sym (length-bytes_low_first 0 k y))
    (sym (append_assoc (little_bytes k x) (in_bytes k xs) rest) ∙ e) in
    bytes_left k xs ys rest some short h.1

pub number_fault : (k : ℕ) (numbers bytes rest : List ℕ) (b : Bool) (fault : SealFault) → bytes ≡ in_bytes k numbers ++ rest → b ≡ (length rest == 0) → b ≡ false → (fault ≡ Damaged) × (length rest < k)
    → IsDamageOf ((numbers : List ℕ) × (bytes ≡ in_bytes k numbers)) fault
number_fault k numbers bytes rest b fault read is some h =
    damaged ((numbers : List ℕ) × (bytes ≡ in_bytes k numbers)) fault h.0
    (λ w. bytes_left k numbers w.0 rest (some_left rest b is some) h.1 (sym read ∙ w.1))

-- ---- differences

width_first : (bytes rest : List ℕ) (first : ℕ) → bytes ≡ first ∷ rest → AreDifferences bytes
    → (found : List ℕ) × (first ≡ width found) × (rest ≡ in_bytes first found) × All (λ n. n < 256 ^ first) found
width_first bytes rest first is w =
    let e = sym is ∙ w.2 in
    let same : first ≡ width w.0 = ap (λ l. get_or l 0 0) e in
    (w.0, same, ap (drop 1) e ∙ ap (λ k. in_bytes k w.0) (sym same), subst (λ k. All (λ n. n < 256 ^ k) w.0) (sym same) (width_fits w.0 w.1))

-- the width of numbers
width_within : (bytes rest : List ℕ) (first : ℕ) → bytes ≡ first ∷ rest → AreDifferences bytes → (1 ≤ first) × (first ≤ 8)
width_within bytes rest first is w =
    let f = width_first bytes rest first is w in
    (omega (arith, f.1, width_some f.0), omega (arith, f.1, width_most f.0))

pub no_width : (bytes rest : List ℕ) (first : ℕ) → bytes ≡ first ∷ rest → (first < 1) ⊎ ((1 ≤ first) × (8 < first)) → AreDifferences bytes → ⊥
no_width bytes rest first is other w =
    let within = width_within bytes rest first is w in
    ⊎_elim (λ low. omega (arith, low, within.0)) (λ high. omega (arith, high.1, within.1)) other

-- numbers come after the width
pub after_width : (bytes rest : List ℕ) (first : ℕ) → bytes ≡ first ∷ rest → AreDifferences bytes → (numbers : List ℕ) × (rest ≡ in_bytes first numbers)
after_width bytes rest first is w = let f = width_first bytes rest first is w in (f.0, f.2)

-- the width of the numbers that were read
pub width_read : (bytes rest found : List ℕ) (first : ℕ) → 1 ≤ first → bytes ≡ first ∷ rest → rest ≡ in_bytes first found → All (λ n. n < 256 ^ first) found → AreDifferences bytes → width found ≡ first
width_read bytes rest found first some is read fits w =
    let f = width_first bytes rest first is w in
    ap width (in_bytes_same first found f.0 some fits f.3 (sym read ∙ f.2)) ∙ sym f.1

pub fit_in_eight : (k : ℕ) (xs : List ℕ) → k ≤ 8 → All (λ n. n < 256 ^ k) xs → FitInEightBytes xs
fit_in_eight k xs most fits =
    let large : 256 ^ k ≤ 256 ^ 8 = pow-le-pow_right {n = 256} (omega arith) {i = k} {j = 8} most in
    All-weaker (λ n. n < 256 ^ k) (λ n. n < 2 ^ 64) (λ n low. omega (arith, low, large)) xs fits

-- ---- sums of differences

-- each number is at least the one before it, and the first is at least `before`
abbrev pub IsRising : ℕ → List ℕ → Type 0
IsRising before [] = ⊤
IsRising before (n ∷ numbers) = (before ≤ n) × IsRising n numbers

suc_more : (k : ℕ) → suc k + 1 ≡ suc (k + 1)
suc_more k = omega arith

rising_after : (before : ℕ) (xs : List ℕ) → IsSorted nat_cmp (before ∷ xs) → IsRising before xs
rising_after before [] h = tt
rising_after before (x ∷ xs) h =
    (ge_from_not_lt x before (h 0 0 (omega arith) (omega arith)), rising_after x xs tail)
  where
    tail : IsSorted nat_cmp (x ∷ xs)
    tail k d a b = subst (λ n. is_lt (nat_cmp (get_or (before ∷ x ∷ xs) n d) (get_or (x ∷ xs) k d)) ≡ false) (suc_more k) (h (suc k) d (omega arith) (omega (arith, b)))

rising : (xs : List ℕ) → IsSorted nat_cmp xs → IsRising 0 xs
rising [] h = tt
rising (x ∷ xs) h = (omega arith, rising_after x xs h)

sorted : (before : ℕ) (xs : List ℕ) → IsRising before xs → IsSorted nat_cmp xs
sorted before [] h k d a b = absurd (omega (arith, b))
sorted before (x ∷ []) h k d a b = absurd (omega (arith, b))
sorted before (x ∷ y ∷ xs) h zero d a b = nat_cmp-ltb y x ∙ le-ltb y x h.1.0
sorted before (x ∷ y ∷ xs) h (suc k) d a b =
    subst (λ n. is_lt (nat_cmp (get_or (x ∷ y ∷ xs) n d) (get_or (y ∷ xs) k d)) ≡ false) (sym (suc_more k)) (sorted x (y ∷ xs) h.1 k d (omega arith) (omega (arith, b)))

pub all_sorted : (before : ℕ) (xs : List ℕ) → ((rest : List ℕ) → IsRising before rest → IsRising 0 (xs ++ rest)) → IsSorted nat_cmp xs
all_sorted before xs h = sorted 0 xs (subst (IsRising 0) (append-nil xs) (h [] tt))

pub one_more_rising : (more : List ℕ) (before n d : ℕ) → n ≡ before + d → ((rest : List ℕ) → IsRising before rest → IsRising 0 (more ++ rest))
    → (rest : List ℕ) → IsRising n rest → IsRising 0 ((more ++ n ∷ []) ++ rest)
one_more_rising more before n d is was rest h = subst (IsRising 0) (sym (append_assoc more (n ∷ []) rest)) (was (n ∷ rest) (omega (arith, is), h))

-- numbers from `before` on have these differences
abbrev pub HaveSumsFrom : ℕ → List ℕ → Type 0
HaveSumsFrom before found = (numbers : List ℕ) × IsRising before numbers × FitInEightBytes numbers × (differences before numbers ≡ found)

pub sums_from : (found : List ℕ) → HaveSums found → HaveSumsFrom 0 found
sums_from found w = (w.0, rising w.0 w.1, w.2, w.3)

next_sum : (before d : ℕ) (found : List ℕ) → HaveSumsFrom before (d ∷ found) → (before + d < 2 ^ 64) × HaveSumsFrom (before + d) found
next_sum before d found w = by w.0 w.1 w.2 w.3
  where
    by : (numbers : List ℕ) → IsRising before numbers → FitInEightBytes numbers → differences before numbers ≡ d ∷ found → (before + d < 2 ^ 64) × HaveSumsFrom (before + d) found
    by [] up fit is = absurd (omega (arith, ap length is))
    by (n ∷ numbers) up fit is =
        let low = All-head (λ n. n < 2 ^ 64) n numbers fit in
        let step : difference before n ≡ d = ap (λ l. get_or l 0 0) is in
        let sum : n ≡ before + d = omega (arith, up.0, low, step) in (
          omega (arith, sum, low),
          (numbers, subst (λ m. IsRising m numbers) sum up.1, All-tail (λ n. n < 2 ^ 64) n numbers fit, subst (λ m. differences m numbers ≡ found) sum (ap (drop 1) is)),
        )

drop_next : (xs : List ℕ) (i : ℕ) → i < length xs → drop i xs ≡ get_or xs i 0 ∷ drop (i + 1) xs
drop_next [] i low = absurd (omega (arith, low))
drop_next (x ∷ xs) zero low = refl
drop_next (x ∷ xs) (suc i) low =
    let next : suc (i + 1) ≡ suc i + 1 = omega arith in
    drop_next xs i (omega (arith, low)) ∙ ap (λ n. get_or xs i 0 ∷ drop n (x ∷ xs)) next

pub one_more_sum_left : (found : List ℕ) (i before n : ℕ) → i < length found → n ≡ before + get_or found i 0 → (HaveSums found → HaveSumsFrom before (drop i found))
    → HaveSums found → HaveSumsFrom n (drop (i + 1) found)
one_more_sum_left found i before n low is was w =
    subst (λ m. HaveSumsFrom m (drop (i + 1) found)) (sym is) (next_sum before (get_or found i 0) (drop (i + 1) found) (subst (HaveSumsFrom before) (drop_next found i low) (was w))).1

-- the next sum is too large
pub sum_fault : (found : List ℕ) (i before : ℕ) (fault : SealFault) → i < length found → (HaveSums found → HaveSumsFrom before (drop i found))
    → (fault ≡ Damaged) × (2 ^ 64 ≤ before + get_or found i 0) → IsDamageOf (HaveSums found) fault
sum_fault found i before fault low was h =
    damaged (HaveSums found) fault h.0
    (λ w. omega (arith, h.1, (next_sum before (get_or found i 0) (drop (i + 1) found) (subst (HaveSumsFrom before) (drop_next found i low) (was w))).0))

-- ---- texts of lists of numbers

list_differences : (bytes : List ℕ) → IsListText bytes → AreDifferences bytes
unfolding number_list
list_differences bytes w = (differences 0 w.0, differences_fit 0 w.0, w.3)

pub list_fault_first : (bytes : List ℕ) (fault : SealFault) → IsDamageOf (AreDifferences bytes) fault → IsDamageOf (IsListText bytes) fault
list_fault_first bytes fault h = damage_of (IsListText bytes) (AreDifferences bytes) fault (list_differences bytes) h

pub list_fault_next : (bytes found : List ℕ) (fault : SealFault) → FitInEightBytes found → bytes ≡ width found ∷ in_bytes (width found) found → IsDamageOf (HaveSums found) fault → IsDamageOf (IsListText bytes) fault
unfolding list_differences
list_fault_next bytes found fault fit read h =
    damage_of (IsListText bytes) (HaveSums found) fault
    (λ w. let d = list_differences bytes w in (w.0, w.1, w.2, found_same d.0 found d.1 fit (sym d.2 ∙ read))) h

fit_at : (lists : List (List ℕ)) (n : ℕ) → n < length lists → FitInEightBytes (numbers_of lists) → FitInEightBytes (get_or lists n [])
fit_at [] n low fit = absurd (omega (arith, low))
fit_at (l ∷ ls) zero low fit = (front_fits l (numbers_of ls) fit).0
fit_at (l ∷ ls) (suc n) low fit = fit_at ls n (omega (arith, low)) (front_fits l (numbers_of ls) fit).1

list_at : (lists : List (List ℕ)) (n : ℕ) → n < length lists → AreAscending lists → IsListText (get_or (map number_list lists) n [])
list_at lists n low are = (get_or lists n [], are.0 n [] low, fit_at lists n low are.1, get_or-map number_list lists n [] [] low)

-- a sealed list comes next
abbrev pub BeginsWithList : List ℕ → Type 0
BeginsWithList bytes = (text : List ℕ) × (after : List ℕ) × (bytes ≡ sealed text ++ after) × IsListText text

lists_on : (count : ℕ) (texts : List (List ℕ)) (bytes rest : List ℕ) → length bytes < 2 ^ 64 → bytes ≡ all_sealed texts ++ rest → length texts < count → BeginWithLists count bytes → BeginsWithList rest
lists_on count texts bytes rest low read less w =
    let others = map number_list w.0 in
    let low' : length (all_sealed texts ++ rest) < 2 ^ 64 = omega (arith, low, ap length read) in
    let next = next_text texts others rest w.1 low' (sym read ∙ w.4) (omega (arith, less, w.2, length-map w.0 number_list)) in
    (get_or others (length texts) [], next.0, next.1, list_at w.0 (length texts) (omega (arith, less, w.2)) w.3)

sealed_lists_on : (texts : List (List ℕ)) (bytes rest : List ℕ) → length bytes < 2 ^ 64 → bytes ≡ all_sealed texts ++ rest → 0 < length rest → AreSealedLists bytes → BeginsWithList rest
sealed_lists_on texts bytes rest low read some w =
    let low' : length (all_sealed texts ++ rest) < 2 ^ 64 = omega (arith, low, ap length read) in
    let less = text_left texts (map number_list w.0) rest low' (sym read ∙ w.2) some in
    lists_on (length w.0) texts bytes rest low read (omega (arith, less, length-map w.0 number_list))
    (w.0, [], refl, w.1, w.2 ∙ sym (append-nil (all_sealed (map number_list w.0))))

list_is : (rest text after : List ℕ) → length rest < 2 ^ 64 → rest ≡ sealed text ++ after → BeginsWithList rest → IsListText text
list_is rest text after low is w =
    subst IsListText (first_same w.0 text w.1 after (omega (arith, low, ap length w.2)) (sym w.2 ∙ is)).0 w.3

rest_low : (texts : List (List ℕ)) (bytes rest : List ℕ) → length bytes < 2 ^ 64 → bytes ≡ all_sealed texts ++ rest → length rest < 2 ^ 64
rest_low texts bytes rest low read = omega (arith, low, ap length read, length-append (all_sealed texts) rest)

-- the rest does not begin with a sealed text
pub lists_fault : (count : ℕ) (lists : List (List ℕ)) (bytes rest : List ℕ) (fault : SealFault) → length bytes < 2 ^ 64 → bytes ≡ all_sealed (map number_list lists) ++ rest → length lists < count
    → IsFaultOf (BeginsSealed rest) rest fault → IsFaultOf (BeginWithLists count bytes) bytes fault
lists_fault count lists bytes rest fault low read less h =
    let texts = map number_list lists in
    fault_of (BeginWithLists count bytes) (BeginsSealed rest) texts bytes rest fault read
    (λ w. let next = lists_on count texts bytes rest low read (omega (arith, less, length-map lists number_list)) w in (next.0, next.1, next.2)) h

-- the next text is no list of numbers
pub lists_damage : (count : ℕ) (lists : List (List ℕ)) (bytes rest text after : List ℕ) (fault : SealFault) → length bytes < 2 ^ 64 → bytes ≡ all_sealed (map number_list lists) ++ rest → length lists < count
    → rest ≡ sealed text ++ after → IsDamageOf (IsListText text) fault → IsFaultOf (BeginWithLists count bytes) bytes fault
lists_damage count lists bytes rest text after fault low read less first h =
    let texts = map number_list lists in
    fault_of_damage (BeginWithLists count bytes) (IsListText text) bytes fault
    (λ w. list_is rest text after (rest_low texts bytes rest low read) first (lists_on count texts bytes rest low read (omega (arith, less, length-map lists number_list)) w)) h

pub sealed_lists_fault : (lists : List (List ℕ)) (bytes rest : List ℕ) (b : Bool) (fault : SealFault) → length bytes < 2 ^ 64 → bytes ≡ all_sealed (map number_list lists) ++ rest → b ≡ (length rest == 0) → b ≡ false
    → IsFaultOf (BeginsSealed rest) rest fault → IsFaultOf (AreSealedLists bytes) bytes fault
sealed_lists_fault lists bytes rest b fault low read is some h =
    let texts = map number_list lists in
    fault_of (AreSealedLists bytes) (BeginsSealed rest) texts bytes rest fault read
    (λ w. let next = sealed_lists_on texts bytes rest low read (some_left rest b is some) w in (next.0, next.1, next.2)) h

pub sealed_lists_damage : (lists : List (List ℕ)) (bytes rest text after : List ℕ) (b : Bool) (fault : SealFault) → length bytes < 2 ^ 64 → bytes ≡ all_sealed (map number_list lists) ++ rest → b ≡ (length rest == 0) → b ≡ false
    → rest ≡ sealed text ++ after → IsDamageOf (IsListText text) fault → IsFaultOf (AreSealedLists bytes) bytes fault
sealed_lists_damage lists bytes rest text after b fault low read is some first h =
    let texts = map number_list lists in
    fault_of_damage (AreSealedLists bytes) (IsListText text) bytes fault
    (λ w. list_is rest text after (rest_low texts bytes rest low read) first (sealed_lists_on texts bytes rest low read (some_left rest b is some) w)) h

-- ---- a list and its marks

pub no_list : (bytes : List ℕ) (fault : SealFault) → IsFaultOf (BeginsSealed bytes) bytes fault → IsFaultOf (AreListAndMarks bytes) bytes fault
no_list bytes fault h = fault_of (AreListAndMarks bytes) (BeginsSealed bytes) [] bytes bytes fault refl (λ w. (w.0, all_sealed w.1, w.3)) h

same_list : (bytes list rest : List ℕ) → length bytes < 2 ^ 64 → bytes ≡ sealed list ++ rest → (w : AreListAndMarks bytes) → (list ≡ w.0) × (rest ≡ all_sealed w.1)
same_list bytes list rest low first w = first_same list w.0 rest (all_sealed w.1) (omega (arith, low, ap length first)) (sym first ∙ w.3)

pub no_marks : (bytes list rest : List ℕ) (fault : SealFault) → length bytes < 2 ^ 64 → bytes ≡ sealed list ++ rest → IsFaultOf (AreSealed rest) rest fault → IsFaultOf (AreListAndMarks bytes) bytes fault
no_marks bytes list rest fault low first h =
    fault_of (AreListAndMarks bytes) (AreSealed rest) (list ∷ []) bytes rest fault (first ∙ ap (λ l. l ++ rest) (sym (append-nil (sealed list))))
    (λ w. (w.1, (same_list bytes list rest low first w).1)) h

pub other_marks : (bytes list rest : List ℕ) (marks : List (List ℕ)) (fault : SealFault) → length bytes < 2 ^ 64 → bytes ≡ sealed list ++ rest → rest ≡ all_sealed marks
    → IsDamageOf ((text : List ℕ) × IsKept list marks text) fault → IsFaultOf (AreListAndMarks bytes) bytes fault
other_marks bytes list rest marks fault low first read h =
    fault_of_damage (AreListAndMarks bytes) ((text : List ℕ) × IsKept list marks text) bytes fault kept h
  where
    short : length (all_sealed marks) < 2 ^ 64
    short = omega (arith, low, ap length first, ap length read, length-append (sealed list) rest)

    kept : AreListAndMarks bytes → (text : List ℕ) × IsKept list marks text
    kept w =
        let same = same_list bytes list rest low first w in
        let all : marks ≡ w.1 = seals_are_unique marks w.1 short (sym read ∙ same.1) in
        (w.2, subst (λ l. IsKept l marks w.2) (sym same.0) (subst (λ m. IsKept w.0 m w.2) (sym all) w.4))
