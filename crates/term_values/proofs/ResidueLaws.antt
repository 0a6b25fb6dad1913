-- The residues of numbers, by which equal numbers have one key.
use Rattle.std.proofs.Common.{◌≡◌, ◌⊎◌, inl, inr, ℕ, zero, suc, ◌+◌, ◌-◌, ◌*◌, ◌^◌, ◌%◌, ◌<◌, ◌≤◌, Bool, true, false, ◌++◌, ◌∷◌, [], List, length, slice_get, take, add-one, pos, neg_ℤ, Some, refl, sym, ◌∙◌, ap, subst, arith, lit<, if◌then◌else◌}
use Rattle.std.proofs.Math.Nat.{one-le-pow, mul_assoc, mul_comm, mul-one, mul-le-mul_right, mod-add-mod, mod-eq_of_lt, add-mul-mod_self_right, pow-suc}
use Rattle.std.proofs.lemmas.Nat.{mul-mod_first, mul-mod_second, mul-pow}
use Rattle.std.proofs.lemmas.Int.{ints}
use Rattle.std.proofs.lemmas.Cmp.{int_ranked}
use Rattle.std.proofs.lemmas.Str.{digit_value_digit}
use Rattle.std.specs.Char.{digit_value, is_ascii_digit}
use Rattle.std.specs.Cmp.{first_so, second_so}
use Rattle.std.specs.List.{list_all}
use Rattle.std.specs.Str.Parse.{digits_value, digits_value_after}
use Rattle.std.specs.declared.cmp.Ordering.TheVariants.{Equal}
use Rattle.algebra_model.specs.Number.{Number, number_cmp, raised}
use Rattle.term_values.proofs.NumberLaws.{after_append, value_after, value_append}
use Rattle.term_values.proofs.SignLaws.{in_range}
use Rattle.term_values.specs.EqualityKey.{modulus, number_key, tenth}

-- ---- digits

pub digit_range : (digits : List ℕ) (i c : ℕ) → list_all is_ascii_digit digits ≡ true → slice_get digits i ≡ Some c → (48 ≤ c) × (c ≤ 57)
digit_range [] i c h e = cc
digit_range (x ∷ cs) zero c h e = let p : x ≡ c = cc in in_range c (subst (λ n. is_ascii_digit n ≡ true) p (first_so (is_ascii_digit x) (list_all is_ascii_digit cs) h))
digit_range (x ∷ cs) (suc i) c h e = digit_range cs i c (second_so (is_ascii_digit x) (list_all is_ascii_digit cs) h) e

take_one_more : (xs : List ℕ) (i x : ℕ) → slice_get xs i ≡ Some x → take (i + 1) xs ≡ take i xs ++ x ∷ []
take_one_more xs i x e = rw add-one (by xs i e)
  where
    by : (xs : List ℕ) (i : ℕ) → slice_get xs i ≡ Some x → take (suc i) xs ≡ take i xs ++ x ∷ []
    by [] i e = cc
    by (y ∷ xs) zero e = let p : y ≡ x = cc in ap (λ z. z ∷ []) p
    by (y ∷ xs) (suc i) e = ap (λ r. y ∷ r) (by xs i e)

-- ---- residues

-- ten times a tenth
tens : (k : ℕ) → (10 * tenth) ^ k % modulus ≡ 1
tens zero = refl
tens (suc k) =
    ap (λ n. n % modulus) (pow-suc (10 * tenth) k)
    ∙ sym (mul-mod_first ((10 * tenth) ^ k) (10 * tenth) modulus)
    ∙ ap (λ n. (n * (10 * tenth)) % modulus) (tens k)

-- ten to a power, times a tenth to the same power, leaves a residue as it is
cancelled : (c k : ℕ) → (c * 10 ^ k * tenth ^ k) % modulus ≡ c % modulus
cancelled c k =
    ap (λ n. n % modulus) (mul_assoc c (10 ^ k) (tenth ^ k) ∙ ap (λ n. c * n) (sym (mul-pow 10 tenth k)))
    ∙ sym (mul-mod_second c ((10 * tenth) ^ k) modulus)
    ∙ ap (λ n. (c * n) % modulus) (tens k)
    ∙ ap (λ n. n % modulus) (mul-one c)

turned : (a x y z : ℕ) → a * x * y * z ≡ a * y * (x * z)
turned a x y z =
    mul_assoc (a * x) y z ∙ mul_assoc a x (y * z)
    ∙ ap (λ n. a * n) (sym (mul_assoc x y z) ∙ ap (λ n. n * z) (mul_comm x y) ∙ mul_assoc y x z)
    ∙ sym (mul_assoc a y (x * z))

residues_meet : (a b k m : ℕ) → a * 10 ^ m ≡ b * 10 ^ k → (a * tenth ^ k) % modulus ≡ (b * tenth ^ m) % modulus
residues_meet a b k m e =
    sym (cancelled (a * tenth ^ k) m)
    ∙ ap (λ n. n % modulus)
    (turned a (tenth ^ k) (10 ^ m) (tenth ^ m)
    ∙ (λ i. e i * mul_comm (tenth ^ k) (tenth ^ m) i)
    ∙ sym (turned b (tenth ^ m) (10 ^ k) (tenth ^ k)))
    ∙ cancelled (b * tenth ^ m) k

-- ---- numbers

abbrev signed : Bool → ℕ → ℕ
signed negative size = if negative then (modulus - size) % modulus else size

sizes_meet : (s t : Bool) (a b : ℕ) → (if s then neg_ℤ (pos a) else pos a) ≡ (if t then neg_ℤ (pos b) else pos b)
    → (a ≡ b) × (signed s 0 ≡ signed t 0) × ((s ≡ t) ⊎ (a ≡ 0))
sizes_meet true true a b e = (omega (arith, ints, e), refl, inl refl)
sizes_meet true false a b e = (omega (arith, ints, e), refl, inr (omega (arith, ints, e)))
sizes_meet false true a b e = (omega (arith, ints, e), refl, inr (omega (arith, ints, e)))
sizes_meet false false a b e = (omega (arith, ints, e), refl, inl refl)

no_digits : (d k : ℕ) → d * 10 ^ k ≡ 0 → d ≡ 0
no_digits zero k e = refl
no_digits (suc d) k e =
    let many : 1 * 10 ^ k ≤ suc d * 10 ^ k = mul-le-mul_right (10 ^ k) (omega arith) in
    let power : 1 ≤ 10 ^ k = one-le-pow k 10 (lit< tt) in
    absurd (omega arith)

zero_key : (x : Number) → x.digits ≡ 0 → number_key x ≡ signed x.negative 0
zero_key x e = ap (λ d. signed x.negative ((d * tenth ^ x.places) % modulus)) e ∙ ap (λ n. signed x.negative (n % modulus)) (zero_mul (tenth ^ x.places))
  where
    zero_mul : (n : ℕ) → 0 * n ≡ 0
    zero_mul n = omega arith

pub numbers_meet : (x y : Number) → Equal ≡ number_cmp x y → number_key x ≡ number_key y
numbers_meet x y e =
    let same : raised x y.places ≡ raised y x.places = int_ranked (raised x y.places) (raised y x.places) Equal e in
    let a = x.digits * 10 ^ y.places in
    let b = y.digits * 10 ^ x.places in
    let sizes = sizes_meet x.negative y.negative a b same in
    by sizes.0 sizes.1 sizes.2
  where
    by : x.digits * 10 ^ y.places ≡ y.digits * 10 ^ x.places → signed x.negative 0 ≡ signed y.negative 0
        → ((x.negative ≡ y.negative) ⊎ (x.digits * 10 ^ y.places ≡ 0)) → number_key x ≡ number_key y
    by h z (inl s) = λ i. signed (s i) (residues_meet x.digits y.digits x.places y.places h i)
    by h z (inr n) =
        zero_key x (no_digits x.digits y.places n) ∙ z ∙ sym (zero_key y (no_digits y.digits x.places (sym h ∙ n)))

-- ---- residues of digits

-- what follows a residue, as what follows its number
pub following : (n K V : ℕ) → ((n % modulus) * K + V) % modulus ≡ (n * K + V) % modulus
following n K V =
    sym (mod-add-mod ((n % modulus) * K) modulus V)
    ∙ ap (λ m. (m + V) % modulus) (mul-mod_first n K modulus)
    ∙ mod-add-mod (n * K) modulus V

pub digit_step : (digits : List ℕ) (i c d before key : ℕ) → slice_get digits i ≡ Some c → list_all is_ascii_digit digits ≡ true → d + 48 ≡ c
    → key ≡ digits_value_after 10 before (take i digits) % modulus
    → (key * 10 + d) % modulus ≡ digits_value_after 10 before (take (i + 1) digits) % modulus
digit_step digits i c d before key at all is was =
    let r = digit_range digits i c all at in
    let value : digit_value c + 48 ≡ c = digit_value_digit c r in
    let same : d ≡ digit_value c = omega arith in
    let A = digits_value_after 10 before (take i digits) in
    let taken : digits_value_after 10 before (take (i + 1) digits) ≡ A * 10 + d =
    ap (digits_value_after 10 before) (take_one_more digits i c at) ∙ after_append before (take i digits) (c ∷ []) ∙ ap (λ n. A * 10 + n) (sym same) in
    ap (λ k. (k * 10 + d) % modulus) was ∙ following A 10 d ∙ ap (λ n. n % modulus) (sym taken)

-- the digits after the dot follow those before it
pub digits_done : (whole fraction : List ℕ) (k : ℕ) → k ≡ digits_value_after 10 0 whole % modulus
    → digits_value_after 10 k fraction % modulus ≡ digits_value 10 (whole ++ fraction) % modulus
digits_done whole fraction k is =
    ap (λ n. digits_value_after 10 n fraction % modulus) is
    ∙ ap (λ n. n % modulus) (value_after (digits_value 10 whole % modulus) fraction)
    ∙ following (digits_value 10 whole) (10 ^ length fraction) (digits_value 10 fraction)
    ∙ ap (λ n. n % modulus) (sym (value_append whole fraction))

-- one place more
pub place_step : (n i key : ℕ) → key ≡ (n * tenth ^ i) % modulus → (key * tenth) % modulus ≡ (n * tenth ^ (i + 1)) % modulus
place_step n i key was =
    ap (λ k. (k * tenth) % modulus) was ∙ mul-mod_first (n * tenth ^ i) tenth modulus
    ∙ ap (λ m. m % modulus) (mul_assoc n (tenth ^ i) tenth ∙ ap (λ m. n * m) (sym (pow-suc tenth i) ∙ ap (λ m. tenth ^ m) (sym (add-one i))))

pub places_done : (n digits places : ℕ) → n ≡ digits % modulus → (n * tenth ^ places) % modulus ≡ (digits * tenth ^ places) % modulus
places_done n digits places is = ap (λ m. (m * tenth ^ places) % modulus) is ∙ mul-mod_first digits (tenth ^ places) modulus

-- the tenth of the tens, and a tenth for each unit
pub one_tenth : (n q r : ℕ) → q * 10 + r ≡ n → r < 10 → n < modulus → q + r * tenth ≡ (n * tenth) % modulus
one_tenth n q r split unit small =
    let whole : n * tenth ≡ (q + r * tenth) + q * modulus = omega (arith, split) in
    let low : q + r * tenth < modulus = omega (arith, split) in
    sym (ap (λ m. m % modulus) whole ∙ add-mul-mod_self_right (q + r * tenth) q modulus ∙ mod-eq_of_lt low)
