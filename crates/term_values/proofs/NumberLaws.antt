-- The order of numbers digit by digit is their order as fractions over powers of ten.
use Rattle.std.proofs.lemmas.Bool.Decides.{Decides-eqb}
use Rattle.std.proofs.Common.{true≢false, Decides, ◌≡◌, ◌≢◌, ℕ, suc, ◌+◌, ◌*◌, ◌^◌, ◌<◌, ◌≤◌, Bool, true, false, ◌==◌, cond, List, [], ◌∷◌, ◌++◌, length, refl, sym, ◌∙◌, ap, subst, arith, lit<}
use Rattle.std.proofs.Math.Nat.{pow-suc, mul-le-mul_right, pow-le-pow_right, mul-lt-mul_of_pos_right, one-le-pow, mul_comm}
use Rattle.std.proofs.lemmas.Int.Digits.{digits_value-lt}
use Rattle.std.proofs.lemmas.Str.{digit_value_digit}
use Rattle.std.proofs.lemmas.Str.Parse.{digit_from_value}
use Rattle.std.specs.Char.{digit_value}
use Rattle.std.specs.Str.Parse.{AllDigits, digits_value, digits_value_after}
use Rattle.std.specs.Cmp.{ranks}
use Rattle.std.specs.Cmp.Lexicographic.{slice_cmp}
use Rattle.std.specs.Ordering.{MatchOrdering, nat_cmp, ordering_then}
use Rattle.std.specs.declared.cmp.Ordering.{Ordering}
use Rattle.std.specs.declared.cmp.Ordering.TheVariants.{Less, Equal, Greater}
use Rattle.term_values.specs.Digits.{without_leading_zeros, whole_order, fraction_order, size_order}

abbrev V : List ℕ → ℕ
V = digits_value 10

-- the result is the order of the two numbers
abbrev pub Ranks : Ordering → ℕ → ℕ → Type 0
Ranks r x y = MatchOrdering r (x < y) (x ≡ y) (y < x)

ranks_along : (r : Ordering) {x x' y y' : ℕ} → x ≡ x' → y ≡ y' → Ranks r x y → Ranks r x' y'
ranks_along r {x} {x'} {y} {y'} p q h = subst (λ (n : ℕ). Ranks r x' n) q (subst (λ (n : ℕ). Ranks r n y) p h)

ranks_shifted : (r : Ordering) (c d x y : ℕ) → x + 48 ≡ c → y + 48 ≡ d → Ranks r c d → Ranks r x y
ranks_shifted Less c d x y p q h = omega arith
ranks_shifted Equal c d x y p q h = omega arith
ranks_shifted Greater c d x y p q h = omega arith

ranks_tenfold : (r : Ordering) (x y : ℕ) → Ranks r x y → Ranks r (x * 10) (y * 10)
ranks_tenfold Less x y h = omega arith
ranks_tenfold Equal x y h = omega arith
ranks_tenfold Greater x y h = omega arith

-- the leading parts decide, and if they are equal, the rest does
head_ranks : (d e P A B : ℕ) (s r : Ordering) → A < P → B < P → Ranks s d e → Ranks r A B
    → Ranks (ordering_then s r) (d * P + A) (e * P + B)
head_ranks d e P A B Less r a b h g =
    let k : suc d * P ≤ e * P = mul-le-mul_right P h in
    omega arith
head_ranks d e P A B Greater r a b h g =
    let k : suc e * P ≤ d * P = mul-le-mul_right P h in
    omega arith
head_ranks d e P A B Equal Less a b h g = let k : d * P ≡ e * P = ap (λ n. n * P) h in omega arith
head_ranks d e P A B Equal Equal a b h g = let k : d * P ≡ e * P = ap (λ n. n * P) h in omega arith
head_ranks d e P A B Equal Greater a b h g = let k : d * P ≡ e * P = ap (λ n. n * P) h in omega arith

-- ---- the value of digits

regrouped : (n P Q : ℕ) → Q ≡ P * 10 → n * Q ≡ n * 10 * P
regrouped n P Q e = rw e (omega arith)

pub value_after : (n : ℕ) (cs : List ℕ) → digits_value_after 10 n cs ≡ n * 10 ^ length cs + V cs
value_after n [] = omega arith
value_after n (c ∷ cs) =
    let a = value_after (n * 10 + digit_value c) cs in
    let b = value_after (0 * 10 + digit_value c) cs in
    let p = regrouped n (10 ^ length cs) (10 ^ suc (length cs)) (pow-suc 10 (length cs)) in
    omega (arith, a, b, p)

pub value_cons : (c : ℕ) (cs : List ℕ) → V (c ∷ cs) ≡ digit_value c * 10 ^ length cs + V cs
value_cons c cs = let a = value_after (0 * 10 + digit_value c) cs in omega (arith, a)

pub after_append : (n : ℕ) (xs ys : List ℕ) → digits_value_after 10 n (xs ++ ys) ≡ digits_value_after 10 (digits_value_after 10 n xs) ys
after_append n [] ys = refl
after_append n (x ∷ xs) ys = after_append (n * 10 + digit_value x) xs ys

pub value_append : (xs ys : List ℕ) → V (xs ++ ys) ≡ V xs * 10 ^ length ys + V ys
value_append xs ys = after_append 0 xs ys ∙ value_after (V xs) ys

-- ---- digits

digit_ranks : (c d : ℕ) → digit_value c < 10 → digit_value d < 10
    → Ranks (nat_cmp c d) (digit_value c) (digit_value d)
digit_ranks c d p q =
    ranks_shifted (nat_cmp c d) c d _ _ (digit_value_digit c (digit_from_value c p))
    (digit_value_digit d (digit_from_value d q)) (ranks c d)

numeral_ranks : (v w : List ℕ) → AllDigits 10 v → AllDigits 10 w → length v ≡ length w
    → Ranks (slice_cmp nat_cmp v w) (V v) (V w)
numeral_ranks [] [] p q e = refl
numeral_ranks [] (d ∷ ds) p q e = absurd (omega arith)
numeral_ranks (c ∷ cs) [] p q e = absurd (omega arith)
numeral_ranks (c ∷ cs) (d ∷ ds) p q e =
    let same : length cs ≡ length ds = omega arith in
    let power : 10 ^ length cs ≡ 10 ^ length ds = ap (λ n. 10 ^ n) same in
    let above : V ds < 10 ^ length ds = digits_value-lt 10 ds q.1 in
    let below : V ds < 10 ^ length cs = omega arith in
    let h = head_ranks (digit_value c) (digit_value d) (10 ^ length cs) (V cs) (V ds) (nat_cmp c d)
    (slice_cmp nat_cmp cs ds) (digits_value-lt 10 cs p.1) below (digit_ranks c d p.0 q.0)
    (numeral_ranks cs ds p.1 q.1 same) in
    let last : digit_value d * 10 ^ length cs + V ds ≡ digit_value d * 10 ^ length ds + V ds = ap (λ n. digit_value d * n + V ds) power in
    ranks_along (ordering_then (nat_cmp c d) (slice_cmp nat_cmp cs ds)) (sym (value_cons c cs)) (last ∙ sym (value_cons d ds)) h

-- fewer digits are a smaller number, if the other number has no leading zero
fewer_is_less : (v : List ℕ) (c : ℕ) (cs : List ℕ) → AllDigits 10 v → digit_value c < 10 → c ≢ 48
    → length v ≤ length cs → V v < V (c ∷ cs)
fewer_is_less v c cs p q n le =
    let small : V v < 10 ^ length v = digits_value-lt 10 v p in
    let grows : 10 ^ length v ≤ 10 ^ length cs = pow-le-pow_right (lit< tt) le in
    let digit : digit_value c + 48 ≡ c = digit_value_digit c (digit_from_value c q) in
    let one : 1 ≤ digit_value c = omega arith in
    let many : 1 * 10 ^ length cs ≤ digit_value c * 10 ^ length cs = mul-le-mul_right (10 ^ length cs) one in
    omega (arith, value_cons c cs)

-- ---- leading zeros

abbrev BeginsWithNoZero : List ℕ → Type 0
BeginsWithNoZero [] = Unit {0}
BeginsWithNoZero (c ∷ cs) = c ≢ 48

pub zero_in_front : (c : ℕ) (cs : List ℕ) → c ≡ 48 → V cs ≡ V (c ∷ cs)
zero_in_front c cs e =
    let zero_value : digit_value c ≡ 0 = ap digit_value e in
    let product : digit_value c * 10 ^ length cs ≡ 0 * 10 ^ length cs = ap (λ n. n * 10 ^ length cs) zero_value in
    omega (arith, value_cons c cs)

-- b says whether c is a zero, and rest is cs without its leading zeros
one_stripped : (b : Bool) (c : ℕ) (cs rest : List ℕ) → Decides b (c ≡ 48) → V rest ≡ V cs → V (cond b rest (c ∷ cs)) ≡ V (c ∷ cs)
one_stripped true c cs rest d e = e ∙ zero_in_front c cs (d.0 refl)
one_stripped false c cs rest d e = refl

stripped_value : (cs : List ℕ) → V (without_leading_zeros cs) ≡ V cs
stripped_value [] = refl
stripped_value (c ∷ cs) = one_stripped (c == 48) c cs _ (Decides-eqb c 48) (stripped_value cs)

stripped_begins : (cs : List ℕ) → BeginsWithNoZero (without_leading_zeros cs)
stripped_begins [] = tt
stripped_begins (c ∷ cs) = by (c == 48) c cs _ (Decides-eqb c 48) (stripped_begins cs)
  where
    by : (b : Bool) (c : ℕ) (cs rest : List ℕ) → Decides b (c ≡ 48) → BeginsWithNoZero rest → BeginsWithNoZero (cond b rest (c ∷ cs))
    by true c cs rest d h = h
    by false c cs rest d h = λ e. absurd (true≢false (sym (d.1 e)))

stripped_digits : (cs : List ℕ) → AllDigits 10 cs → AllDigits 10 (without_leading_zeros cs)
stripped_digits [] h = h
stripped_digits (c ∷ cs) h = by (c == 48) c cs _ h (stripped_digits cs h.1)
  where
    by : (b : Bool) (c : ℕ) (cs rest : List ℕ) → AllDigits 10 (c ∷ cs) → AllDigits 10 rest → AllDigits 10 (cond b rest (c ∷ cs))
    by true c cs rest h g = g
    by false c cs rest h g = h

stripped_ranks : (v w : List ℕ) → AllDigits 10 v → AllDigits 10 w → BeginsWithNoZero v → BeginsWithNoZero w
    → Ranks (whole_order v w) (V v) (V w)
stripped_ranks v w p q n m = by (nat_cmp (length v) (length w)) v w p q n m (ranks (length v) (length w))
  where
    less : (v w : List ℕ) → AllDigits 10 v → AllDigits 10 w → BeginsWithNoZero w → length v < length w → V v < V w
    less v [] p q m h = absurd (omega arith)
    less v (c ∷ cs) p q m h = fewer_is_less v c cs p q.0 m (omega arith)

    by : (s : Ordering) (v w : List ℕ) → AllDigits 10 v → AllDigits 10 w → BeginsWithNoZero v → BeginsWithNoZero w
        → Ranks s (length v) (length w) → Ranks (ordering_then s (slice_cmp nat_cmp v w)) (V v) (V w)
    by Less v w p q n m h = less v w p q m h
    by Equal v w p q n m h = numeral_ranks v w p q h
    by Greater v w p q n m h = less w v q p n h

whole_ranks : (v w : List ℕ) → AllDigits 10 v → AllDigits 10 w
    → Ranks (whole_order (without_leading_zeros v) (without_leading_zeros w)) (V v) (V w)
whole_ranks v w p q =
    ranks_along (whole_order (without_leading_zeros v) (without_leading_zeros w)) (stripped_value v) (stripped_value w)
    (stripped_ranks _ _ (stripped_digits v p) (stripped_digits w q) (stripped_begins v) (stripped_begins w))

-- ---- fraction digits

fraction_ranks : (f g : List ℕ) → AllDigits 10 f → AllDigits 10 g
    → Ranks (fraction_order f g) (V f * 10 ^ length g) (V g * 10 ^ length f)
fraction_ranks [] [] p q = refl
fraction_ranks [] (d ∷ ds) p q =
    let P = 10 ^ length ds in
    let h = head_ranks 0 (digit_value d) P 0 (V ds) (nat_cmp 48 d) (fraction_order [] ds) (omega (arith, digits_value-lt 10 ds q.1))
    (digits_value-lt 10 ds q.1) (digit_ranks 48 d (lit< tt) q.0)
    (ranks_along (fraction_order [] ds) (omega arith) (omega arith) (fraction_ranks [] ds tt q.1)) in
    ranks_along (fraction_order [] (d ∷ ds)) (omega arith) (omega (arith, value_cons d ds)) h
fraction_ranks (c ∷ cs) [] p q =
    let P = 10 ^ length cs in
    let h = head_ranks (digit_value c) 0 P (V cs) 0 (nat_cmp c 48) (fraction_order cs []) (digits_value-lt 10 cs p.1)
    (omega (arith, digits_value-lt 10 cs p.1)) (digit_ranks c 48 p.0 (lit< tt))
    (ranks_along (fraction_order cs []) (omega arith) (omega arith) (fraction_ranks cs [] p.1 tt)) in
    ranks_along (fraction_order (c ∷ cs) []) (omega (arith, value_cons c cs)) (omega arith) h
fraction_ranks (c ∷ cs) (d ∷ ds) p q =
    let P = 10 ^ length cs in
    let Q = 10 ^ length ds in
    let h = head_ranks (digit_value c) (digit_value d) (P * Q) (V cs * Q) (V ds * P) (nat_cmp c d) (fraction_order cs ds)
    (mul-lt-mul_of_pos_right (digits_value-lt 10 cs p.1) (one-le-pow (length ds) 10 (lit< tt)))
    (subst (λ (n : ℕ). V ds * P < n) (mul_comm Q P) (mul-lt-mul_of_pos_right (digits_value-lt 10 ds q.1) (one-le-pow (length cs) 10 (lit< tt))))
    (digit_ranks c d p.0 q.0) (fraction_ranks cs ds p.1 q.1) in
    ranks_along (fraction_order (c ∷ cs) (d ∷ ds))
    (raised_once c cs Q (10 ^ suc (length ds)) (pow-suc 10 (length ds)))
    (ap (λ n. (digit_value d * n + V ds * P) * 10) (mul_comm P Q) ∙ raised_once d ds P (10 ^ suc (length cs)) (pow-suc 10 (length cs)))
    (ranks_tenfold (fraction_order (c ∷ cs) (d ∷ ds)) _ _ h)
  where
    raised_once : (c : ℕ) (cs : List ℕ) (Q R : ℕ) → R ≡ Q * 10 → (digit_value c * (10 ^ length cs * Q) + V cs * Q) * 10 ≡ V (c ∷ cs) * R
    raised_once c cs Q R e = rw (e, value_cons c cs) (omega arith)

-- ---- both parts

pub size_ranks : (v f w g : List ℕ) → AllDigits 10 v → AllDigits 10 f → AllDigits 10 w → AllDigits 10 g
    → Ranks (size_order v f w g) (V (v ++ f) * 10 ^ length g) (V (w ++ g) * 10 ^ length f)
size_ranks v f w g p q r s =
    let P = 10 ^ length f in
    let Q = 10 ^ length g in
    let h = head_ranks (V v) (V w) (P * Q) (V f * Q) (V g * P) (whole_order (without_leading_zeros v) (without_leading_zeros w)) (fraction_order f g)
    (mul-lt-mul_of_pos_right (digits_value-lt 10 f q) (one-le-pow (length g) 10 (lit< tt)))
    (subst (λ (n : ℕ). V g * P < n) (mul_comm Q P) (mul-lt-mul_of_pos_right (digits_value-lt 10 g s) (one-le-pow (length f) 10 (lit< tt))))
    (whole_ranks v w p r) (fraction_ranks f g q s) in
    ranks_along (size_order v f w g) (regroup v f Q) (ap (λ n. V w * n + V g * P) (mul_comm P Q) ∙ regroup w g P) h
  where
    regroup : (v f : List ℕ) (Q : ℕ) → V v * (10 ^ length f * Q) + V f * Q ≡ V (v ++ f) * Q
    regroup v f Q = rw (value_append v f) (omega arith)
