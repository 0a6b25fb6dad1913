-- What a reason says is true of the state and of the next character.
use Rattle.std.proofs.Common.{◌≡◌, ℕ, ◌+◌, ◌*◌, ◌<◌, ◌≤◌, true, false, [], ◌∷◌, Some, Ok, Err, refl, sym, subst, ◌∙◌, inl, inr, arith}
use Rattle.std.specs.Prelude.{Result, MatchResult, ◌&&◌, nat_le}
use Rattle.std.specs.Char.{digit_value}
use Rattle.std.proofs.lemmas.Bool.{cases_lt}
use Rattle.rdf_core.specs.Characters.{is_hex}
use Rattle.line_diagnosis.specs.declared.reason.Next.{Next}
use Rattle.line_diagnosis.specs.declared.reason.Reason.{Reason}
use Rattle.line_diagnosis.specs.declared.reason.Reason.TheVariants.{NoDigit, TooLarge, Surrogate, IriEscape}
use Rattle.line_diagnosis.specs.declared.state.Digits.{Digits}
use Rattle.line_diagnosis.specs.declared.state.Part.{Part}
use Rattle.line_diagnosis.specs.declared.state.Scheme.{Scheme}
use Rattle.line_diagnosis.specs.declared.state.State.{State}
use Rattle.line_diagnosis.specs.declared.state.State.TheVariants as state
use Rattle.line_diagnosis.specs.Rest.{head, is_head}
use Rattle.line_diagnosis.specs.Says.{Explains, ExpectsPart, MayCome, Says, SaysOfDigits, scalars}
use Rattle.line_diagnosis.proofs.DigitLaws.{head_le, head_small, named, or_first, or_second, range_is}
use Rattle.line_diagnosis.proofs.RangeLaws.{scalar_list, scalar_ranges}

pub says_at_state : (s t : State) (c : ℕ) (r : Result State Reason) → s ≡ t → Explains t c r → Explains s c r
says_at_state s t c r e h = subst (λ (x : State). Explains x c r) (sym e) h

-- the part that should come may come in this state
pub expects : (s : State) (n : Next) (c : ℕ) (r : Result State Reason) → MayCome s n → ExpectsPart n c r → Explains s c r
expects s n c (Ok new) m e = tt
expects s n c (Err x) m e = subst (Says s (Some c)) (sym e.1) (m, e.2)

-- a test that fails has this reason
pub fails : (s : State) (c : ℕ) (error : Reason) (r : Result State Reason) → Says s (Some c) error → MatchResult r (λ new. Unit {0}) (λ x. x ≡ error) → Explains s c r
fails s c error (Ok new) h e = tt
fails s c error (Err x) h e = subst (Says s (Some c)) (sym e) h

-- ---- digits

-- a number above a bound of its digits is above the bound
head_above : (k a b : ℕ) → head k a < head k b → a < b
head_above k a b h = elim (cases_lt a b) [
  | inl l ↦ l
  | inr g ↦ absurd (omega (arith, h, head_le k b a g))
]

pub large : (d : Digits) (c value : ℕ) → value ≡ d.value * 16 + digit_value c → head d.more 0x10FFFF < value → SaysOfDigits d c TooLarge
large d c value e h = λ n k. head_above d.more 0x10FFFF n (omega (arith, h, e, k))

pub very_large : (d : Digits) (c : ℕ) → 0x10FFFF < d.value → SaysOfDigits d c TooLarge
very_large d c h = λ n k. omega (arith, h, k, head_small d.more n)

pub surrogate : (d : Digits) (c value : ℕ) → value ≡ d.value * 16 + digit_value c → head d.more 0xD7FF < value → value < head d.more 0xE000 → SaysOfDigits d c Surrogate
surrogate d c value e l h = λ n k. (head_above d.more 0xD7FF n (omega (arith, l, e, k)), head_above d.more n 0xE000 (omega (arith, h, e, k)))

-- the digits of a character below the surrogates, or above them
pub low_head : (more v : ℕ) → v ≤ head more 0xD7FF → is_head scalars more v ≡ true
low_head more v h =
    or_first (nat_le (head more 0) v && nat_le v (head more 0xD7FF)) (is_head ((0xE000, 0x10FFFF) ∷ []) more v) (range_is (head more 0) (head more 0xD7FF) v (omega (arith, head_small more 0)) h)

pub high_head : (more v : ℕ) → head more 0xE000 ≤ v → v ≤ head more 0x10FFFF → is_head scalars more v ≡ true
high_head more v l h =
    or_second (nat_le (head more 0) v && nat_le v (head more 0xD7FF)) (is_head ((0xE000, 0x10FFFF) ∷ []) more v)
    (or_first (nat_le (head more 0xE000) v && nat_le v (head more 0x10FFFF)) false (range_is (head more 0xE000) (head more 0x10FFFF) v l h))

-- some character has the digits of an escape in an IRI
some_character : (p : Part) (s : Scheme) (d : Digits) (c : ℕ) → SaysOfDigits d c IriEscape → Says (state.IriDigits p s d) (Some c) IriEscape
some_character p s d c h =
    let n = named scalar_list d.more (d.value * 16 + digit_value c) refl h.1 in
    (refl, (n.c, n.begins, sym (scalar_ranges.same n.c) ∙ n.within))

pub digits_in_iri : (p : Part) (s : Scheme) (d : Digits) (c : ℕ) (r : Reason) → SaysOfDigits d c r → Says (state.IriDigits p s d) (Some c) r
digits_in_iri p s d c (NoDigit found) h = (refl, h.0, h.1)
digits_in_iri p s d c TooLarge h = h
digits_in_iri p s d c Surrogate h = h
digits_in_iri p s d c IriEscape h = some_character p s d c h
digits_in_iri p s d c _ h = absurd h

-- In a string each character may be escaped.
pub digits_in_string : (d : Digits) (c : ℕ) (r : Reason)
    → (is_hex c ≡ true → is_head scalar_list d.more (d.value * 16 + digit_value c) ≡ true → ⊥) → SaysOfDigits d c r → Says (state.StringDigits d) (Some c) r
digits_in_string d c (NoDigit found) n h = (refl, h.0, h.1)
digits_in_string d c TooLarge n h = h
digits_in_string d c Surrogate n h = h
digits_in_string d c IriEscape n h = absurd (n h.0 h.1)
digits_in_string d c _ n h = absurd h
