-- A string of JSON is read in one way only.
use Rattle.std.proofs.Common.{◌≡◌, ℕ, ◌+◌, ◌-◌, ◌/◌, ◌%◌, ◌<◌, ◌==◌, Bool, true, false, cond, nat_lt, List, [], ◌∷◌, ◌++◌, get_or, drop, flat_map, codes, refl, sym, ap, ◌∙◌, arith, append_assoc, if◌then◌else◌}
use Rattle.std.specs.Char.{digit_char}
use Rattle.std.proofs.lemmas.Bool.{eqb-true, lt-ltb, ltb-false, ltb-true, false≢true, le-ltb}
use Rattle.result_json.specs.Results.{string_byte, string_text}
use Rattle.result_merge.specs.Escapes.{digit, low_byte, short_escape}

-- the first byte that the content of a string means, and what follows its text; by two tests, whether a backslash is first, and
-- whether `u` is second
abbrev pub split : Bool → Bool → List ℕ → ℕ × List ℕ
split false b l = (get_or l 0 0, drop 1 l)
split true false l = (short_escape (get_or l 1 0), drop 2 l)
split true true l = (low_byte (get_or l 4 0) (get_or l 5 0), drop 6 l)

abbrev first_byte : List ℕ → ℕ × List ℕ
first_byte l = split (get_or l 0 0 == 92) (get_or l 1 0 == 117) l

abbrev low : ℕ → List ℕ
low x = 92 ∷ 117 ∷ 48 ∷ 48 ∷ digit_char (x / 16) ∷ digit_char (x % 16) ∷ []

abbrev printed : ℕ → Bool → Bool → Bool → Bool → Bool → Bool → Bool → Bool → List ℕ
printed x a b c d e f g l =
    if a then codes "\\\"" else if b then codes "\\\\" else if c then codes "\\b" else if d then codes "\\f" else if e then codes "\\n" else if f then codes "\\r"
    else if g then codes "\\t" else if l then low x else x ∷ []

digit_read : (d : ℕ) → d < 16 → digit (digit_char d) ≡ d
digit_read d h = by (nat_lt d 10) refl
  where
    by : (b : Bool) → nat_lt d 10 ≡ b → digit (cond b (48 + d) (87 + d)) ≡ d
    by true e =
        let below : d < 10 = ltb-true d 10 e in
        let small : 48 + d < 97 = omega arith in
        let value : (48 + d) - 48 ≡ d = omega arith in
        ap (λ b. if b then (48 + d) - 48 else (48 + d) - 87) (lt-ltb (48 + d) 97 small) ∙ value
    by false e =
        let above = ltb-false d 10 e in
        let large : nat_lt (87 + d) 97 ≡ false = le-ltb (87 + d) 97 (omega (arith, above)) in
        let value : (87 + d) - 87 ≡ d = omega arith in
        ap (λ b. if b then (87 + d) - 48 else (87 + d) - 87) large ∙ value

low_value : (x : ℕ) → x < 32 → low_byte (digit_char (x / 16)) (digit_char (x % 16)) ≡ x
low_value x h = by (nat_lt x 16) refl
  where
    by : (b : Bool) → nat_lt x 16 ≡ b → low_byte (digit_char (x / 16)) (digit_char (x % 16)) ≡ x
    by true e =
        let below : x < 16 = ltb-true x 16 e in
        let high : x / 16 ≡ 0 = omega arith in
        let rest : x % 16 ≡ x = omega arith in
        ap (λ q. low_byte (digit_char q) (digit_char (x % 16))) high ∙ digit_read (x % 16) (omega arith) ∙ rest
    by false e =
        let above = ltb-false x 16 e in
        let high : x / 16 ≡ 1 = omega (arith, above, h) in
        let rest : x % 16 + 16 ≡ x = omega (arith, above, h) in
        ap (λ q. low_byte (digit_char q) (digit_char (x % 16))) high ∙ ap (λ n. n + 16) (digit_read (x % 16) (omega arith)) ∙ rest

by_tests : (x : ℕ) (rest : List ℕ) (a b c d e f g l : Bool) → (a ≡ true → x ≡ 34) → (x == 92) ≡ b → (b ≡ true → x ≡ 92) → (c ≡ true → x ≡ 8) → (d ≡ true → x ≡ 12) → (e ≡ true → x ≡ 10) → (f ≡ true → x ≡ 13)
    → (g ≡ true → x ≡ 9) → (l ≡ true → x < 32) → first_byte (printed x a b c d e f g l ++ rest) ≡ (x, rest)
by_tests x rest true b c d e f g l ha is hb hc hd he hf hg hl = λ i. (sym (ha refl) i, rest)
by_tests x rest false true c d e f g l ha is hb hc hd he hf hg hl = λ i. (sym (hb refl) i, rest)
by_tests x rest false false true d e f g l ha is hb hc hd he hf hg hl = λ i. (sym (hc refl) i, rest)
by_tests x rest false false false true e f g l ha is hb hc hd he hf hg hl = λ i. (sym (hd refl) i, rest)
by_tests x rest false false false false true f g l ha is hb hc hd he hf hg hl = λ i. (sym (he refl) i, rest)
by_tests x rest false false false false false true g l ha is hb hc hd he hf hg hl = λ i. (sym (hf refl) i, rest)
by_tests x rest false false false false false false true l ha is hb hc hd he hf hg hl = λ i. (sym (hg refl) i, rest)
by_tests x rest false false false false false false false true ha is hb hc hd he hf hg hl = λ i. (low_value x (hl refl) i, rest)
by_tests x rest false false false false false false false false ha is hb hc hd he hf hg hl = ap (λ b. split b (get_or (x ∷ rest) 1 0 == 117) (x ∷ rest)) is

byte_read : (x : ℕ) (rest : List ℕ) → first_byte (string_byte x ++ rest) ≡ (x, rest)
unfolding string_byte
byte_read x rest =
    by_tests x rest (x == 34) (x == 92) (x == 8) (x == 12) (x == 10) (x == 13) (x == 9) (nat_lt x 32) (eqb-true x 34) refl (eqb-true x 92) (eqb-true x 8) (eqb-true x 12)
    (eqb-true x 10) (eqb-true x 13) (eqb-true x 9) (ltb-true x 32)

-- the same, from the bytes and the two tests
pub first_read : (bytes rest next : List ℕ) (x byte : ℕ) (b c : Bool) → bytes ≡ string_byte x ++ rest → (get_or bytes 0 0 == 92) ≡ b → (get_or bytes 1 0 == 117) ≡ c → (byte, next) ≡ split b c bytes
    → (byte ≡ x) × (next ≡ rest)
first_read bytes rest next x byte b c e p q r =
    let both : (byte, next) ≡ (x, rest) = r ∙ (λ i. split (sym p i) (sym q i) bytes) ∙ ap first_byte e ∙ byte_read x rest in
    (ap (λ (y : ℕ × List ℕ). y.0) both, ap (λ (y : ℕ × List ℕ). y.1) both)

-- the first byte that is written is no quotation mark
abbrev pub head_of : List ℕ → ℕ
head_of l = get_or l 0 0

first_written : (x : ℕ) (rest : List ℕ) (a b c d e f g l : Bool) → (x == 34) ≡ a → (head_of (printed x a b c d e f g l ++ rest) == 34) ≡ false
first_written x rest true b c d e f g l is = refl
first_written x rest false true c d e f g l is = refl
first_written x rest false false true d e f g l is = refl
first_written x rest false false false true e f g l is = refl
first_written x rest false false false false true f g l is = refl
first_written x rest false false false false false true g l is = refl
first_written x rest false false false false false false true l is = refl
first_written x rest false false false false false false false true is = refl
first_written x rest false false false false false false false false is = is

pub no_quote : (x : ℕ) (rest : List ℕ) → 34 ≡ head_of (string_byte x ++ rest) → ⊥
unfolding string_byte
no_quote x rest e =
    false≢true (sym (first_written x rest (x == 34) (x == 92) (x == 8) (x == 12) (x == 10) (x == 13) (x == 9) (nat_lt x 32) refl) ∙ ap (λ n. n == 34) (sym e))

content_same : (s t a b : List ℕ) → flat_map string_byte s ++ 34 ∷ a ≡ flat_map string_byte t ++ 34 ∷ b → (s ≡ t) × (a ≡ b)
content_same [] [] a b e = (refl, ap (drop 1) e)
content_same [] (y ∷ t) a b e =
    absurd (no_quote y (flat_map string_byte t ++ 34 ∷ b) (ap head_of (e ∙ append_assoc (string_byte y) (flat_map string_byte t) (34 ∷ b))))
content_same (x ∷ s) [] a b e =
    absurd (no_quote x (flat_map string_byte s ++ 34 ∷ a) (ap head_of (sym e ∙ append_assoc (string_byte x) (flat_map string_byte s) (34 ∷ a))))
content_same (x ∷ s) (y ∷ t) a b e =
    let both : (x, flat_map string_byte s ++ 34 ∷ a) ≡ (y, flat_map string_byte t ++ 34 ∷ b) =
    sym (byte_read x (flat_map string_byte s ++ 34 ∷ a))
    ∙ ap first_byte (sym (append_assoc (string_byte x) (flat_map string_byte s) (34 ∷ a)) ∙ e ∙ append_assoc (string_byte y) (flat_map string_byte t) (34 ∷ b))
    ∙ byte_read y (flat_map string_byte t ++ 34 ∷ b) in
    let others = content_same s t a b (ap (λ (p : ℕ × List ℕ). p.1) both) in
    ((λ i. (both i).0 ∷ others.0 i), others.1)

pub opened : (s a : List ℕ) → string_text s ++ a ≡ 34 ∷ (flat_map string_byte s ++ 34 ∷ a)
opened s a = ap (λ l. 34 ∷ l) (append_assoc (flat_map string_byte s) (34 ∷ []) a)

-- the strings and what follows them
pub string_same : (s t a b : List ℕ) → string_text s ++ a ≡ string_text t ++ b → (s ≡ t) × (a ≡ b)
string_same s t a b e = content_same s t a b (ap (drop 1) (sym (opened s a) ∙ e ∙ opened t b))
