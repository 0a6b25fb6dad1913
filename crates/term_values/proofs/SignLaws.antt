-- Signs and zeros: the order of numbers from the order of their absolute values.
use Rattle.std.proofs.Common.{true≢false, Decides, nat_le, ◌≡◌, ◌≢◌, ℕ, ◌+◌, ◌*◌, ◌^◌, ◌<◌, ◌≤◌, Bool, true, false, ◌&&◌, ◌==◌, cond, pos, neg_ℤ, List, [], ◌∷◌, ◌++◌, length, refl, sym, ◌∙◌, ap, arith, lit<}
use Rattle.std.proofs.lemmas.Int.{ints}
use Rattle.std.proofs.lemmas.Bool.{leb-true}
use Rattle.std.proofs.lemmas.Bool.Decides.{Decides-eqb}
use Rattle.std.proofs.lemmas.List.Folds.{list_all-append}
use Rattle.std.proofs.Math.Nat.{mul-le-mul_right, one-le-pow}
use Rattle.std.proofs.lemmas.Str.{digit_value_digit}
use Rattle.std.proofs.lemmas.Str.Parse.{digit_from_value}
use Rattle.std.specs.Char.{digit_value, is_ascii_digit}
use Rattle.std.specs.Cmp.{int_cmp_is, first_so, second_so}
use Rattle.std.specs.List.{list_all}
use Rattle.std.specs.Ordering.{int_cmp}
use Rattle.std.specs.Str.Parse.{AllDigits, digits_value}
use Rattle.std.specs.declared.cmp.Ordering.{Ordering}
use Rattle.std.specs.declared.cmp.Ordering.TheVariants.{Less, Equal, Greater}
use mathlib.Core.Bool.{beq}
use Rattle.algebra_model.specs.Number.{Number, is_zero, number_cmp}
use Rattle.term_values.specs.declared.digits.Digits.{Digits}
use Rattle.term_values.specs.Digits.{size_order}
use Rattle.term_values.specs.NumberShown.{number_shown}
use Rattle.term_values.proofs.NumberLaws.{Ranks, size_ranks, value_cons, zero_in_front}

pub same_sign : (a b c : Bool) → beq a b ≡ true → a ≡ c → b ≡ c
same_sign true true c h e = e
same_sign true false c h e = absurd (true≢false (sym h))
same_sign false true c h e = absurd (true≢false (sym h))
same_sign false false c h e = e

pub other_sign : (a b : Bool) → beq a b ≡ false → a ≡ true → b ≡ false
other_sign true true h e = absurd (true≢false h)
other_sign true false h e = refl
other_sign false true h e = absurd (true≢false (sym e))
other_sign false false h e = refl

pub other_sign' : (a b : Bool) → beq a b ≡ false → a ≡ false → b ≡ true
other_sign' true true h e = absurd (true≢false h)
other_sign' true false h e = absurd (true≢false e)
other_sign' false true h e = refl
other_sign' false false h e = absurd (true≢false h)

positive_cmp : (r : Ordering) (m n : ℕ) → Ranks r m n → r ≡ int_cmp (pos m) (pos n)
positive_cmp Less m n h = int_cmp_is (pos m) (pos n) Less (omega (arith, ints))
positive_cmp Equal m n h = int_cmp_is (pos m) (pos n) Equal (ap pos h)
positive_cmp Greater m n h = int_cmp_is (pos m) (pos n) Greater (omega (arith, ints))

negative_cmp : (r : Ordering) (m n : ℕ) → Ranks r n m → r ≡ int_cmp (neg_ℤ (pos m)) (neg_ℤ (pos n))
negative_cmp Less m n h = int_cmp_is (neg_ℤ (pos m)) (neg_ℤ (pos n)) Less (omega (arith, ints))
negative_cmp Equal m n h = int_cmp_is (neg_ℤ (pos m)) (neg_ℤ (pos n)) Equal (ap (λ n. neg_ℤ (pos n)) (sym h))
negative_cmp Greater m n h = int_cmp_is (neg_ℤ (pos m)) (neg_ℤ (pos n)) Greater (omega (arith, ints))

less_cmp : (m n : ℕ) → 0 < m + n → Less ≡ int_cmp (neg_ℤ (pos m)) (pos n)
less_cmp m n h = int_cmp_is (neg_ℤ (pos m)) (pos n) Less (omega (arith, ints))

greater_cmp : (m n : ℕ) → 0 < m + n → Greater ≡ int_cmp (pos m) (neg_ℤ (pos n))
greater_cmp m n h = int_cmp_is (pos m) (neg_ℤ (pos n)) Greater (omega (arith, ints))

-- ---- digits

pub in_range : (c : ℕ) → is_ascii_digit c ≡ true → (48 ≤ c) × (c ≤ 57)
in_range c h =
    (leb-true 48 c (first_so (nat_le 48 c) (nat_le c 57) h), leb-true c 57 (second_so (nat_le 48 c) (nat_le c 57) h))

all_digits : (cs : List ℕ) → list_all is_ascii_digit cs ≡ true → AllDigits 10 cs
all_digits [] h = tt
all_digits (c ∷ cs) h =
    let r = in_range c (first_so (is_ascii_digit c) (list_all is_ascii_digit cs) h) in
    let v : digit_value c + 48 ≡ c = digit_value_digit c r in
    (omega (arith, r.1), all_digits cs (second_so (is_ascii_digit c) (list_all is_ascii_digit cs) h))

front_digits : (v f : List ℕ) → list_all is_ascii_digit (v ++ f) ≡ true → AllDigits 10 v
front_digits v f h =
    all_digits v (first_so _ (list_all is_ascii_digit f) (sym (list_all-append is_ascii_digit v f) ∙ h))

pub back_digits : (v f : List ℕ) → list_all is_ascii_digit (v ++ f) ≡ true → AllDigits 10 f
back_digits v f h =
    all_digits f (second_so (list_all is_ascii_digit v) _ (sym (list_all-append is_ascii_digit v f) ∙ h))

-- ---- the order of two numbers with the same sign

sizes : (x y : Digits) → Ranks (size_order x.whole.now x.fraction.now y.whole.now y.fraction.now)
    ((number_shown x).digits * 10 ^ (number_shown y).places) ((number_shown y).digits * 10 ^ (number_shown x).places)
sizes x y =
    size_ranks x.whole.now x.fraction.now y.whole.now y.fraction.now (front_digits x.whole.now x.fraction.now x.digits)
    (back_digits x.whole.now x.fraction.now x.digits)
    (front_digits y.whole.now y.fraction.now y.digits)
    (back_digits y.whole.now y.fraction.now y.digits)

pub positive_order : (x y : Digits) → x.negative ≡ false → y.negative ≡ false
    → size_order x.whole.now x.fraction.now y.whole.now y.fraction.now ≡ number_cmp (number_shown x) (number_shown y)
positive_order x y p q = rw (p, q) (positive_cmp _ _ _ (sizes x y))

pub negative_order : (x y : Digits) → x.negative ≡ true → y.negative ≡ true
    → size_order y.whole.now y.fraction.now x.whole.now x.fraction.now ≡ number_cmp (number_shown x) (number_shown y)
negative_order x y p q = rw (p, q) (negative_cmp _ _ _ (sizes y x))

-- ---- two signs

scaled_zero : (d k : ℕ) → d ≡ 0 → d * 10 ^ k ≡ 0
scaled_zero d k e = rw e (omega arith)

scaled_more : (d k : ℕ) → d ≢ 0 → 0 < d * 10 ^ k
scaled_more d k n =
    let one : 1 ≤ d = omega arith in
    let many : 1 * 10 ^ k ≤ d * 10 ^ k = mul-le-mul_right (10 ^ k) one in
    let power : 1 ≤ 10 ^ k = one-le-pow k 10 (lit< tt) in
    omega arith

not_both : (d e j k : ℕ) → ((d == 0) && (e == 0)) ≡ false → 0 < d * 10 ^ j + e * 10 ^ k
not_both d e j k h = by (d == 0) (e == 0) (Decides-eqb d 0) (Decides-eqb e 0) h
  where
    by : (a b : Bool) → Decides a (d ≡ 0) → Decides b (e ≡ 0) → (a && b) ≡ false → 0 < d * 10 ^ j + e * 10 ^ k
    by true true p q h = absurd (true≢false h)
    by true false p q h = omega (arith, scaled_more e k (λ z. true≢false (sym (q.1 z))))
    by false b p q h = omega (arith, scaled_more d j (λ z. true≢false (sym (p.1 z))))

pub mixed_less : (x y : Number) → x.negative ≡ true → y.negative ≡ false → (is_zero x && is_zero y) ≡ false
    → Less ≡ number_cmp x y
mixed_less x y p q h = rw (p, q) (less_cmp _ _ (not_both x.digits y.digits y.places x.places h))

pub mixed_greater : (x y : Number) → x.negative ≡ false → y.negative ≡ true → (is_zero x && is_zero y) ≡ false
    → Greater ≡ number_cmp x y
mixed_greater x y p q h = rw (p, q) (greater_cmp _ _ (not_both x.digits y.digits y.places x.places h))

zero_cmp : (a b : Bool) (m n : ℕ) → m ≡ 0 → n ≡ 0 → Equal ≡ int_cmp (cond a (neg_ℤ (pos m)) (pos m)) (cond b (neg_ℤ (pos n)) (pos n))
zero_cmp true true m n p q = rw (p, q) refl
zero_cmp true false m n p q = rw (p, q) refl
zero_cmp false true m n p q = rw (p, q) refl
zero_cmp false false m n p q = rw (p, q) refl

pub both_zero : (x y : Number) → (is_zero x && is_zero y) ≡ true → Equal ≡ number_cmp x y
both_zero x y h =
    zero_cmp x.negative y.negative _ _
    (scaled_zero x.digits y.places ((Decides-eqb x.digits 0).0 (first_so (is_zero x) (is_zero y) h)))
    (scaled_zero y.digits x.places ((Decides-eqb y.digits 0).0 (second_so (is_zero x) (is_zero y) h)))

-- ---- digits that are all zeros

not_zero : (n : ℕ) → n ≢ 0 → false ≡ (n == 0)
not_zero n h = by (n == 0) (Decides-eqb n 0)
  where
    by : (b : Bool) → Decides b (n ≡ 0) → false ≡ b
    by true d = absurd (h (d.0 refl))
    by false d = refl

zeros : (cs : List ℕ) → AllDigits 10 cs → list_all (λ c. c == 48) cs ≡ (digits_value 10 cs == 0)
zeros [] h = refl
zeros (c ∷ cs) h = by (c == 48) c cs (list_all (λ c. c == 48) cs) (Decides-eqb c 48) h (zeros cs h.1)
  where
    by : (a : Bool) (c : ℕ) (cs : List ℕ) (b : Bool) → Decides a (c ≡ 48) → AllDigits 10 (c ∷ cs)
        → b ≡ (digits_value 10 cs == 0) → (a && b) ≡ (digits_value 10 (c ∷ cs) == 0)
    by true c cs b d h e = e ∙ ap (λ n. n == 0) (zero_in_front c cs (d.0 refl))
    by false c cs b d h e =
        let v : digit_value c + 48 ≡ c = digit_value_digit c (digit_from_value c h.0) in
        let apart : c ≢ 48 = λ z. true≢false (sym (d.1 z)) in
        let one : 1 ≤ digit_value c = omega arith in
        let many : 1 * 10 ^ length cs ≤ digit_value c * 10 ^ length cs = mul-le-mul_right (10 ^ length cs) one in
        let power : 1 ≤ 10 ^ length cs = one-le-pow (length cs) 10 (lit< tt) in
        not_zero (digits_value 10 (c ∷ cs)) (λ z. absurd (omega (arith, value_cons c cs)))

pub zero_parts : (x : Digits)
    → (list_all (λ c. c == 48) x.whole.now && list_all (λ c. c == 48) x.fraction.now) ≡ is_zero (number_shown x)
zero_parts x =
    sym (list_all-append (λ c. c == 48) x.whole.now x.fraction.now) ∙ zeros (x.whole.now ++ x.fraction.now) (all_digits _ x.digits)

pub zero_when : (x : Digits) → list_all (λ c. c == 48) x.whole.now ≡ true
    → list_all (λ c. c == 48) x.fraction.now ≡ is_zero (number_shown x)
zero_when x h = rw h at (zero_parts x)

pub not_zero_when : (x : Digits) → list_all (λ c. c == 48) x.whole.now ≡ false → false ≡ is_zero (number_shown x)
not_zero_when x h = rw h at (zero_parts x)
