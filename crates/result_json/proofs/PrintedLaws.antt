-- What the JSON library prints for a string is what the results format requires.
use Rattle.std.proofs.Common.{◌≡◌, ◌∙◌, ℕ, ◌/◌, ◌%◌, ◌<◌, ◌≤◌, Bool, true, false, not, cond, ◌||◌, ◌&&◌, ◌==◌, nat_lt, nat_le, lit<, arith, List, [], ◌∷◌, ◌++◌, flat_map, codes, refl, sym, ap, append_assoc, subst, if◌then◌else◌}
use Rattle.std.specs.Char.{digit_char}
use Rattle.std.specs.List.{list_all}
use Rattle.std.proofs.lemmas.Bool.{eqb-true, leb-true, le-ltb, ne_eqb, not-true, and_parts}
use Rattle.json.specs.Print.{escape_byte, escape}
use Rattle.serde_json.specs.Data.{string}
use Rattle.serde_json.specs.Written.{compact_text}
use Rattle.result_json.specs.Results.{string_byte, string_text}
use Rattle.result_json.specs.Texts.{is_plain}

abbrev low : ℕ → List ℕ
low x = 92 ∷ 117 ∷ 48 ∷ 48 ∷ digit_char (x / 16) ∷ digit_char (x % 16) ∷ []

abbrev letter : ℕ → Bool → Bool → Bool → Bool → Bool → Bool → Bool → ℕ
letter x a b c d e f g = cond (a || b) x (cond c 98 (cond d 102 (cond e 110 (cond f 114 (cond g 116 0)))))

abbrev printed : ℕ → Bool → Bool → Bool → Bool → Bool → Bool → Bool → Bool → List ℕ
printed x a b c d e f g l = cond (nat_lt 0 (letter x a b c d e f g)) (92 ∷ letter x a b c d e f g ∷ []) (cond l (low x) (x ∷ []))

abbrev expected : ℕ → Bool → Bool → Bool → Bool → Bool → Bool → Bool → Bool → List ℕ
expected x a b c d e f g l =
    if a then codes "\\\"" else if b then codes "\\\\" else if c then codes "\\b" else if d then codes "\\f" else if e then codes "\\n" else if f then codes "\\r"
    else if g then codes "\\t" else if l then low x else x ∷ []

by_tests : (x : ℕ) (a b c d e f g l : Bool) → (a ≡ true → x ≡ 34) → (b ≡ true → x ≡ 92) → printed x a b c d e f g l ≡ expected x a b c d e f g l
by_tests x true b c d e f g l p q = subst (λ (y : ℕ). printed y true b c d e f g l ≡ expected y true b c d e f g l) (sym (p refl)) refl
by_tests x false true c d e f g l p q = subst (λ (y : ℕ). printed y false true c d e f g l ≡ expected y false true c d e f g l) (sym (q refl)) refl
by_tests x false false true d e f g l p q = refl
by_tests x false false false true e f g l p q = refl
by_tests x false false false false true f g l p q = refl
by_tests x false false false false false true g l p q = refl
by_tests x false false false false false false true l p q = refl
by_tests x false false false false false false false l p q = refl

byte_is : (x : ℕ) → escape_byte x ≡ string_byte x
unfolding escape_byte string_byte
byte_is x = by_tests x (x == 34) (x == 92) (x == 8) (x == 12) (x == 10) (x == 13) (x == 9) (nat_lt x 32) (eqb-true x 34) (eqb-true x 92)

bytes_are : (s : List ℕ) → escape s ≡ flat_map string_byte s
bytes_are [] = refl
bytes_are (x ∷ s) = λ i. byte_is x i ++ bytes_are s i

pub string_is : (s : List ℕ) → compact_text (string s) ≡ string_text s
string_is s = λ i. 34 ∷ (bytes_are s i ++ 34 ∷ [])

-- ---- a text that needs no escape

plain_byte : (b : ℕ) → is_plain b ≡ true → string_byte b ≡ b ∷ []
unfolding string_byte
plain_byte b h =
    let tests = and_parts (nat_le 32 b && not (b == 34)) (not (b == 92)) h in
    let first = and_parts (nat_le 32 b) (not (b == 34)) tests.0 in
    let high : 32 ≤ b = leb-true 32 b first.0 in
    let low : (k : ℕ) → k < 32 → (b == k) ≡ false = λ k l. ne_eqb b k (λ (e : b ≡ k). omega arith) in
    let not_below : nat_lt b 32 ≡ false = le-ltb b 32 high in
    λ i. expected b (not-true (b == 34) first.1 i) (not-true (b == 92) tests.1 i) (low 8 (lit< tt) i) (low 12 (lit< tt) i) (low 10 (lit< tt) i) (low 13 (lit< tt) i) (low 9 (lit< tt) i) (not_below i)

-- a text of such bytes is unchanged in a string
pub plain_bytes : (s : List ℕ) → list_all is_plain s ≡ true → flat_map string_byte s ≡ s
plain_bytes [] h = refl
plain_bytes (b ∷ s) h =
    let parts = and_parts (is_plain b) (list_all is_plain s) h in
    λ i. plain_byte b parts.0 i ++ plain_bytes s parts.1 i

pub plain_string : (s : List ℕ) → list_all is_plain s ≡ true → (before opened full closed : List ℕ) → opened ≡ before ++ 34 ∷ [] → full ≡ opened ++ s → closed ≡ full ++ 34 ∷ [] → closed ≡ before ++ string_text s
plain_string s h before opened full closed e f g =
    g ∙ ap (λ x. x ++ 34 ∷ []) (f ∙ ap (λ x. x ++ s) e) ∙ append_assoc (before ++ 34 ∷ []) s (34 ∷ []) ∙ append_assoc before (34 ∷ []) (s ++ 34 ∷ [])
    ∙ ap (λ x. before ++ (34 ∷ (x ++ 34 ∷ []))) (sym (plain_bytes s h))
