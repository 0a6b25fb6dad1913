-- What a reason says of the place (a choice of this project, not fixed by the standard): a state between two characters,
-- and the character that comes next, or the end of the line.
use Rattle.std.specs.Prelude.{◌≡◌, ◌⊎◌, ℕ, ◌<◌, ◌+◌, ◌*◌, List, [], ◌∷◌, Bool, true, false, Option, Some, None, MatchResult, Result}
use Rattle.std.specs.Char.{digit_value}
use lib.Utf8.{scalar}
use Rattle.rdf_core.specs.Characters.{is_hex, is_iri_char}
use Rattle.line_diagnosis.specs.declared.reason.Found.{Found}
use Rattle.line_diagnosis.specs.declared.reason.Found.TheVariants.{Iri, BlankNode, Literal, Comment, Char, LineEnd}
use Rattle.line_diagnosis.specs.declared.reason.Next.{Next}
use Rattle.line_diagnosis.specs.declared.reason.Next.TheVariants as next
use Rattle.line_diagnosis.specs.declared.reason.Reason.{Reason}
use Rattle.line_diagnosis.specs.declared.reason.Reason.TheVariants.{LineBreak, Unexpected, QuotedTriple, NoScheme, IriChar, IriEscape, OpenIri, OpenLiteral, UnknownEscape, NoDigit, Surrogate, TooLarge, NoColon, LabelStart, LabelDot, NoTag, NoSubtag, OneCaret}
use Rattle.line_diagnosis.specs.declared.state.Digits.{Digits}
use Rattle.line_diagnosis.specs.declared.state.Scheme.TheVariants as scheme
use Rattle.line_diagnosis.specs.declared.state.State.{State}
use Rattle.line_diagnosis.specs.declared.state.State.TheVariants as state
use Rattle.line_diagnosis.specs.Rest.{after, head, is_head}
use Rattle.line_diagnosis.specs.Turn.{part, after_dot}

-- this is at the place: what begins with the character, the character itself, or the end of the line
abbrev pub IsFound : Option ℕ → Found → Type 0
IsFound at Iri = at ≡ Some 60
IsFound at BlankNode = at ≡ Some 95
IsFound at Literal = at ≡ Some 34
IsFound at Comment = at ≡ Some 35
IsFound at (Char c) = at ≡ Some c
IsFound at LineEnd = at ≡ None

-- this part of the statement may come next
abbrev pub MayCome : State → Next → Type 0
MayCome (state.Between n) m = m ≡ n
MayCome state.AfterString m = m ≡ next.Graph
MayCome state.Comment m = m ≡ next.End
MayCome state.Tag m = m ≡ next.Graph
MayCome state.Subtag m = m ≡ next.Graph
MayCome (state.Label p) m = m ≡ after p
MayCome (state.LabelDot p) m = (m ≡ next.End) × (after_dot (part (after p)) ≡ Some (part next.End))
MayCome _ m = ⊥

-- the state is in an IRI, perhaps in an escape
abbrev pub is_in_iri : State → Bool
is_in_iri (state.Iri p s) = true
is_in_iri (state.IriBackslash p s) = true
is_in_iri (state.IriDigits p s d) = true
is_in_iri _ = false

-- the state is in a literal, perhaps in an escape
abbrev pub is_in_literal : State → Bool
is_in_literal state.String = true
is_in_literal state.StringBackslash = true
is_in_literal (state.StringDigits d) = true
is_in_literal _ = false

-- an IRI has begun, and its scheme has not
abbrev pub begins_iri : State → Bool
begins_iri (state.Iri p scheme.Unread) = true
begins_iri _ = false

-- the scheme of an IRI has not ended
abbrev pub lacks_scheme : State → Bool
lacks_scheme (state.Iri p scheme.Unread) = true
lacks_scheme (state.Iri p scheme.Begun) = true
lacks_scheme _ = false

abbrev pub is_in_iri_text : State → Bool
is_in_iri_text (state.Iri p s) = true
is_in_iri_text _ = false

abbrev pub is_after_backslash : State → Bool
is_after_backslash (state.IriBackslash p s) = true
is_after_backslash state.StringBackslash = true
is_after_backslash _ = false

-- the digits of an escape, if the state is in one
abbrev pub digits_of : State → Option Digits
digits_of (state.IriDigits p s d) = Some d
digits_of (state.StringDigits d) = Some d
digits_of _ = None

abbrev pub is_in_digits : State → Bool
is_in_digits (state.IriDigits p s d) = true
is_in_digits (state.StringDigits d) = true
is_in_digits _ = false

abbrev pub is_in_iri_digits : State → Bool
is_in_iri_digits (state.IriDigits p s d) = true
is_in_iri_digits _ = false

abbrev pub is_after_underscore : State → Bool
is_after_underscore (state.Underscore p) = true
is_after_underscore _ = false

abbrev pub begins_label : State → Bool
begins_label (state.LabelStart p) = true
begins_label _ = false

-- a dot has followed a label
abbrev pub is_after_dot : State → Bool
is_after_dot (state.LabelDot p) = true
is_after_dot (state.LabelDots p) = true
is_after_dot _ = false

abbrev pub begins_tag : State → Bool
begins_tag state.At = true
begins_tag _ = false

abbrev pub is_after_hyphen : State → Bool
is_after_hyphen state.Hyphen = true
is_after_hyphen _ = false

abbrev pub is_after_caret : State → Bool
is_after_caret state.Caret = true
is_after_caret _ = false

-- the character is no hexadecimal digit
abbrev pub IsNoDigit : Option ℕ → Type 0
IsNoDigit None = Unit {0}
IsNoDigit (Some c) = is_hex c ≡ false

-- the Unicode scalar values
abbrev pub scalars : List (ℕ × ℕ)
scalars = (0, 0xD7FF) ∷ (0xE000, 0x10FFFF) ∷ []

-- each number that begins with these digits and the next one passes the test
abbrev pub AllDenote : (ℕ → Type 0) → Option Digits → Option ℕ → Type 0
AllDenote test (Some d) (Some c) = (n : ℕ) → head d.more n ≡ d.value * 16 + digit_value c → test n
AllDenote test _ _ = ⊥

-- some number that begins with them passes the test
abbrev pub SomeDenotes : (ℕ → Type 0) → Option Digits → Option ℕ → Type 0
SomeDenotes test (Some d) (Some c) = (n : ℕ) × (head d.more n ≡ d.value * 16 + digit_value c) × test n
SomeDenotes test _ _ = ⊥

abbrev pub IsSurrogate : ℕ → Type 0
IsSurrogate n = (0xD7FF < n) × (n < 0xE000)

-- what the reason says is true of the state and of what comes next
abbrev pub Says : State → Option ℕ → Reason → Type 0
Says s at LineBreak = (at ≡ Some 10) ⊎ (at ≡ Some 13)
Says s at (Unexpected n found) = MayCome s n × IsFound at found
Says s at QuotedTriple = (begins_iri s ≡ true) × (at ≡ Some 60)
Says s at (NoScheme found) = (lacks_scheme s ≡ true) × IsFound at found
Says s at (IriChar c) = (is_in_iri_text s ≡ true) × (at ≡ Some c) × (is_iri_char c ≡ false)
Says s at IriEscape = (is_in_iri_digits s ≡ true) × SomeDenotes (λ n. scalar n ≡ true) (digits_of s) at
Says s at OpenIri = (is_in_iri s ≡ true) × (at ≡ None)
Says s at OpenLiteral = (is_in_literal s ≡ true) × (at ≡ None)
Says s at (UnknownEscape found) = (is_after_backslash s ≡ true) × IsFound at found
Says s at (NoDigit found) = (is_in_digits s ≡ true) × IsFound at found × IsNoDigit at
Says s at Surrogate = AllDenote IsSurrogate (digits_of s) at
Says s at TooLarge = AllDenote (λ n. 0x10FFFF < n) (digits_of s) at
Says s at (NoColon found) = (is_after_underscore s ≡ true) × IsFound at found
Says s at (LabelStart found) = (begins_label s ≡ true) × IsFound at found
Says s at LabelDot = is_after_dot s ≡ true
Says s at (NoTag found) = (begins_tag s ≡ true) × IsFound at found
Says s at (NoSubtag found) = (is_after_hyphen s ≡ true) × IsFound at found
Says s at (OneCaret found) = (is_after_caret s ≡ true) × IsFound at found
Says s at _ = ⊥

-- what the reason says of digits and of the character after them is true
abbrev pub SaysOfDigits : Digits → ℕ → Reason → Type 0
SaysOfDigits d c (NoDigit found) = IsFound (Some c) found × (is_hex c ≡ false)
SaysOfDigits d c TooLarge = AllDenote (λ n. 0x10FFFF < n) (Some d) (Some c)
SaysOfDigits d c Surrogate = AllDenote IsSurrogate (Some d) (Some c)
SaysOfDigits d c IriEscape = (is_hex c ≡ true) × (is_head scalars d.more (d.value * 16 + digit_value c) ≡ true)
SaysOfDigits d c _ = ⊥

-- an error is a reason that is true of the state and of the character
abbrev pub Explains : State → ℕ → Result State Reason → Type 0
Explains s c result = MatchResult result (λ new. Unit {0}) (λ reason. Says s (Some c) reason)

-- an error is that another part should come
abbrev pub ExpectsPart : Next → ℕ → Result State Reason → Type 0
ExpectsPart n c result = MatchResult result (λ new. Unit {0})
    (λ reason. (found : Found) × (reason ≡ Unexpected n found) × IsFound (Some c) found)
