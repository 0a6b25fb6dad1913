-- The reason of a malformed line (a choice of this project, not fixed by the standard).
use Rattle.std.specs.Prelude.{◌≡◌, ◌≢◌, ℕ, ◌<◌, ◌≤◌, true, List, [], ◌++◌, length, take, drop, nat_eq, Option, Some, None}
use Rattle.std.specs.List.{slice_get, starts_with}
use Rattle.std.specs.Str.{encode_utf8_all}
use Rattle.std.specs.Str.Lossy.{utf8_error_len}
use lib.Utf8.{encode}
use Rattle.line_diagnosis.specs.declared.reason.Reason.{Reason}
use Rattle.line_diagnosis.specs.declared.reason.Reason.TheVariants.{InvalidUtf8, CutCharacter, ByteOrderMark, Utf16, Packed}
use Rattle.line_diagnosis.specs.declared.state.State.{State}
use Rattle.line_diagnosis.specs.Likeness.{begins_with_mark, is_utf16, magic}
use Rattle.line_diagnosis.specs.Says.{Says}
use Rattle.line_diagnosis.specs.StateAfter.{IsStateAfter}

-- the bytes begin with this character, or there are none
abbrev pub Follows : List ℕ → Option ℕ → Type 0
Follows rest None = rest ≡ []
Follows rest (Some c) = (more : List ℕ) × (rest ≡ encode c ++ more)

-- What the reason says is true of the place: of the state after the characters before it, and of what follows. The
-- state is known by the texts that complete the line.
pub record IsTextReason (line : List ℕ) (offset : ℕ) (r : Reason) : Type 0 where
  pub front : List ℕ
  pub before : take offset line ≡ encode_utf8_all front
  pub state : State
  pub after : IsStateAfter front state
  pub at : Option ℕ
  pub follows : Follows (drop offset line) at
  pub says : Says state at r

-- at the place bytes begin that are no character, or only the first bytes of one
abbrev pub IsBroken : List ℕ → ℕ → Reason → Type 0
IsBroken line offset (InvalidUtf8 byte) =
    (slice_get line offset ≡ Some byte) × (utf8_error_len (drop offset line) ≢ None)
IsBroken line offset CutCharacter = (offset < length line) × (utf8_error_len (drop offset line) ≡ None)
IsBroken line offset _ = ⊥

-- What the reason says of the line is true: of the bytes from the place on, of the first bytes of the line, or of the
-- text before and after the place.
abbrev pub IsReason : List ℕ → ℕ → Reason → Type 0
IsReason line offset (InvalidUtf8 byte) = IsBroken line offset (InvalidUtf8 byte)
IsReason line offset CutCharacter = IsBroken line offset CutCharacter
IsReason line offset ByteOrderMark = (offset ≡ 0) × (begins_with_mark line ≡ true)
IsReason line offset Utf16 = (offset ≤ 1) × (is_utf16 line ≡ true)
IsReason line offset (Packed packing) = (offset ≡ 0) × (starts_with nat_eq line (magic packing) ≡ true)
IsReason line offset r = IsTextReason line offset r
