-- Schemes of IRIs: of their characters or of their bytes, and character by character.
use Rattle.std.proofs.Common.{◌≡◌, ℕ, ◌≤◌, ◌<◌, Bool, true, false, eqb, List, [], ◌∷◌, ◌++◌, refl, sym, ap, ◌∙◌, inl, inr, arith}
use Rattle.std.specs.Prelude.{◌&&◌, ◌||◌}
use Rattle.std.specs.Char.{is_ascii_alphabetic, is_ascii_alphanumeric}
use Rattle.std.specs.Str.{encode_utf8_all}
use Rattle.std.proofs.lemmas.Bool.{cases_lt}
use Rattle.std.proofs.lemmas.Bool.Decides.{nat_tests}
use Rattle.std.proofs.lemmas.Str.{encode_ascii, char_from_byte}
use lib.Utf8.{encode, scalar}
use Rattle.rdf_core.specs.Characters.{is_iri_char}
use Rattle.rdf_core.specs.Lexical.{has_scheme, is_scheme_rest}
use Rattle.rdf_core.proofs.EscapeLaws.{and_is, and_parts}
use Rattle.nquads_core.proofs.RunLaws.{or_parts}
use Rattle.line_diagnosis.specs.declared.state.Scheme.{Scheme}
use Rattle.line_diagnosis.specs.declared.state.Scheme.TheVariants.{Unread, Begun, Read}
use Rattle.line_diagnosis.specs.Rest.{completes_scheme, may_come}

high_letter : (c : ℕ) → 128 ≤ c → is_ascii_alphabetic c ≡ false
high_letter c h = grind (arith, nat_tests)

high_scheme : (c : ℕ) (b : Bool) → 128 ≤ c → (eqb c 58 || ((is_ascii_alphanumeric c || eqb c 43 || eqb c 45 || eqb c 46) && b)) ≡ false
high_scheme c b h = grind (arith, nat_tests)

-- the bytes of a character beyond ASCII begin no scheme and go on with none
rest_high : (bs rest : List ℕ) (c : ℕ) → bs ≡ encode c ++ rest → 128 ≤ c → is_scheme_rest bs ≡ false
rest_high [] rest c e h = refl
rest_high (b ∷ bs) rest c e h = elim (cases_lt b 128) [
  | inl low ↦ absurd (omega (arith, char_from_byte (b ∷ bs) rest c e low (omega arith)))
  | inr high ↦ high_scheme b (is_scheme_rest bs) high
]

start_high : (bs rest : List ℕ) (c : ℕ) → bs ≡ encode c ++ rest → 128 ≤ c → has_scheme bs ≡ false
start_high [] rest c e h = refl
start_high (b ∷ bs) rest c e h = elim (cases_lt b 128) [
  | inl low ↦ absurd (omega (arith, char_from_byte (b ∷ bs) rest c e low (omega arith)))
  | inr high ↦ rw (high_letter b high) refl
]

encode_low : (c : ℕ) (cs : List ℕ) → c < 128 → encode_utf8_all (c ∷ cs) ≡ c ∷ encode_utf8_all cs
encode_low c cs h = rw (encode_ascii c h) refl

rest_of_bytes : (cs : List ℕ) → is_scheme_rest (encode_utf8_all cs) ≡ is_scheme_rest cs
rest_of_bytes [] = refl
rest_of_bytes (c ∷ cs) = elim (cases_lt c 128) [
  | inl low ↦
      let step : is_scheme_rest (c ∷ encode_utf8_all cs) ≡ is_scheme_rest (c ∷ cs) = rw (rest_of_bytes cs) refl in
      ap is_scheme_rest (encode_low c cs low) ∙ step
  | inr high ↦ rest_high (encode_utf8_all (c ∷ cs)) (encode_utf8_all cs) c refl high ∙ sym (high_scheme c (is_scheme_rest cs) high)
]

-- the bytes have a scheme if the characters do
pub scheme_of_bytes : (cs : List ℕ) → has_scheme (encode_utf8_all cs) ≡ has_scheme cs
scheme_of_bytes [] = refl
scheme_of_bytes (c ∷ cs) = elim (cases_lt c 128) [
  | inl low ↦
      let step : has_scheme (c ∷ encode_utf8_all cs) ≡ has_scheme (c ∷ cs) = rw (rest_of_bytes cs) refl in
      ap has_scheme (encode_low c cs low) ∙ step
  | inr high ↦
      let step : has_scheme (c ∷ cs) ≡ false = rw (high_letter c high) refl in
      start_high (encode_utf8_all (c ∷ cs)) (encode_utf8_all cs) c refl high ∙ sym step
]

-- ---- the next code point

letter_is_char : (c : ℕ) → is_ascii_alphabetic c ≡ true → (is_iri_char c ≡ true) × (scalar c ≡ true)
letter_is_char c h = (grind (arith, nat_tests), grind (arith, nat_tests))

scheme_is_char : (c : ℕ) → may_come Begun c ≡ true → (is_iri_char c ≡ true) × (scalar c ≡ true)
scheme_is_char c h = (grind (arith, nat_tests), grind (arith, nat_tests))

-- what may come in an IRI is a character of IRIs
pub may_be : (s : Scheme) (c : ℕ) → may_come s c ≡ true → (is_iri_char c ≡ true) × (scalar c ≡ true)
may_be Unread c h = letter_is_char c h
may_be Begun c h = scheme_is_char c h
may_be Read c h = and_parts (is_iri_char c) (scalar c) h

or_true : (a b : Bool) → b ≡ true → (a || b) ≡ true
or_true true b h = refl
or_true false b h = h

begun_may : (c : ℕ) (b : Bool) → (eqb c 58 || ((is_ascii_alphanumeric c || eqb c 43 || eqb c 45 || eqb c 46) && b)) ≡ true → may_come Begun c ≡ true
begun_may c b h = elim (or_parts (eqb c 58) ((is_ascii_alphanumeric c || eqb c 43 || eqb c 45 || eqb c 46) && b) h) [
  | inl e ↦ rw e refl
  | inr k ↦ let p = and_parts (is_ascii_alphanumeric c || eqb c 43 || eqb c 45 || eqb c 46) b k in or_true (eqb c 58) (is_ascii_alphanumeric c || eqb c 43 || eqb c 45 || eqb c 46) p.0
]

-- a character of IRIs that goes on with a scheme may come
pub may : (s : Scheme) (c : ℕ) (cs : List ℕ) → is_iri_char c ≡ true → scalar c ≡ true → completes_scheme s (c ∷ cs) ≡ true → may_come s c ≡ true
may Unread c cs i h e = (and_parts (is_ascii_alphabetic c) (is_scheme_rest cs) e).0
may Begun c cs i h e = begun_may c (is_scheme_rest cs) e
may Read c cs i h e = and_is (is_iri_char c) (scalar c) i h

-- nothing is a scheme only where the scheme is read
pub read_scheme : (s : Scheme) → completes_scheme s [] ≡ true → s ≡ Read
read_scheme Unread e = cc
read_scheme Begun e = cc
read_scheme Read e = refl
