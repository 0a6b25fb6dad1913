-- The loop that reads hexadecimal digits.
use Rattle.std.proofs.Common.{◌≡◌, ℕ, suc, ◌+◌, ◌-◌, ◌*◌, ◌^◌, ◌<◌, ◌≤◌, true, false, ltb, List, [], ◌∷◌, Option, Some, None, refl, sym, ◌∙◌, arith, lit<, inl, inr}
use Rattle.std.proofs.Math.Nat.{pow-le-pow_right}
use Rattle.std.proofs.lemmas.Grind.{pow_more}
use Rattle.std.proofs.lemmas.Bool.{cases_lt, le-ltb}
use Rattle.std.specs.Char.{digit_value}
use Rattle.std.specs.Str.{IsUtf8, chars}
use Rattle.rdf_core.specs.LexicalReading.{hex_at}

-- The first i of count digits of all are read, value is their value, and rest is the text after
-- them.
pub record HasRead (count i value : ℕ) (rest all : List ℕ) : Type 0 where
  pub utf8 : IsUtf8 rest
  pub left : hex_at (count - i) value (chars rest) ≡ hex_at count 0 (chars all)
  pub fits : value < 16 ^ i

-- the value with one more digit fits in 32 bits
pub one_more_fits : (i v d : ℕ) → i < 8 → v < 16 ^ i → d < 16 → v * 16 + d < 16 ^ (i + 1)
one_more_fits i v d l h k = rw (pow_more 16 i) (omega arith)

pub below_32_bits : (i x : ℕ) → i < 8 → x < 16 ^ (i + 1) → x < 2 ^ 32
below_32_bits i x l h =
    let le : 16 ^ (i + 1) ≤ 16 ^ 8 = (let p : i + 1 ≤ 8 = omega arith in pow-le-pow_right (lit< tt) p) in
    omega arith

pub ends : (count i v : ℕ) (cs : List ℕ) (all : Option (ℕ × List ℕ)) → i < count → cs ≡ [] → hex_at (count - i) v cs ≡ all → all ≡ None
unfolding hex_at
ends count i v cs all l e h =
    let k : count - i ≡ suc (count - (i + 1)) = omega arith in
    let one : hex_at (count - i) v cs ≡ None = rw (k, e) refl in
    sym h ∙ one

pub stops : (count i v c : ℕ) (cs ds : List ℕ) (all : Option (ℕ × List ℕ)) → i < count → cs ≡ c ∷ ds → ltb (digit_value c) 16 ≡ false → hex_at (count - i) v cs ≡ all → all ≡ None
unfolding hex_at
stops count i v c cs ds all l e miss h =
    let k : count - i ≡ suc (count - (i + 1)) = omega arith in
    let one : hex_at (count - i) v cs ≡ None = rw (k, e, miss) refl in
    sym h ∙ one

pub goes_on : (count i v c : ℕ) (cs ds : List ℕ) (all : Option (ℕ × List ℕ)) → i < count → cs ≡ c ∷ ds → ltb (digit_value c) 16 ≡ true → hex_at (count - i) v cs ≡ all → hex_at (count - (i + 1)) (v * 16 + digit_value c) ds ≡ all
unfolding hex_at
goes_on count i v c cs ds all l e hit h =
    let k : count - i ≡ suc (count - (i + 1)) = omega arith in
    let one : hex_at (count - i) v cs ≡ hex_at (count - (i + 1)) (v * 16 + digit_value c) ds = rw (k, e, hit) refl in
    sym one ∙ h

pub is_done : (count i v : ℕ) (cs : List ℕ) (all : Option (ℕ × List ℕ)) → count ≤ i → hex_at (count - i) v cs ≡ all → all ≡ Some (v, cs)
unfolding hex_at
is_done count i v cs all le h =
    let k : count - i ≡ 0 = omega arith in
    let one : hex_at (count - i) v cs ≡ Some (v, cs) = rw k refl in
    sym h ∙ one

pub no_digit : (d : ℕ) → (d < 16 → ⊥) → ltb d 16 ≡ false
no_digit d h = le-ltb d 16 (elim (cases_lt d 16) [ inl lt ↦ absurd (h lt) | inr le ↦ le ])
