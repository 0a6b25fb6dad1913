-- A hint that does no harm (a choice of this project, not fixed by the standard).
use Rattle.std.specs.Prelude.{◌≡◌, ℕ, List, Bool, ⊤, false, true, nat_eq}
use Rattle.std.specs.Str.{IsAscii}
use Rattle.line_diagnosis.specs.declared.hint.Hint.{Hint}
use Rattle.line_diagnosis.specs.declared.hint.Hint.TheVariants.{Unpack, UnpackPart, FromLatin1, Repair, FromUtf16, DropFirstBytes, DropMarks, Truncated, Turtle, Xml, Html, Json, Conflict, PercentEncode, CloseIri, WholeIri, AngleBrackets, DoubleQuotes, QuoteInside, BreakInside, Backslash, HyphenInTag, OtherBlank, OneStatement}
use Rattle.line_diagnosis.specs.declared.hint.LineContext.{LineContext}
use Rattle.line_diagnosis.specs.declared.reason.Reason.{Reason}
use Rattle.line_diagnosis.specs.declared.reason.Reason.TheVariants as reason
use Rattle.line_diagnosis.specs.Likeness.{is_conflict_mark, is_html}

-- What the hint says of the document holds, as far as the line, the bytes before its place and its context show it. A
-- command that changes the first bytes or all bytes of a document is for its first line. A conversion from Latin-1 is for
-- a document without text in UTF-8. A line is HTML or the mark of a merge conflict by its first bytes.
abbrev pub IsSafe : LineContext → List ℕ → List ℕ → Hint → Type 0
IsSafe c line before (Unpack packing) = c.number ≡ 1
IsSafe c line before FromUtf16 = c.number ≡ 1
IsSafe c line before DropFirstBytes = c.number ≡ 1
IsSafe c line before FromLatin1 = (c.is_after_utf8 ≡ false) × IsAscii before
IsSafe c line before (Repair number) = number ≡ c.number
IsSafe c line before Truncated = c.is_cut ≡ true
IsSafe c line before Html = is_html line ≡ true
IsSafe c line before Conflict = is_conflict_mark line ≡ true
IsSafe c line before _ = ⊤

-- The hint is about the reason. The hints on HTML and on merge conflicts are about the whole line.
abbrev pub suits : Hint → Reason → Bool
suits (Unpack packing) (reason.Packed other) = true
suits UnpackPart (reason.Packed packing) = true
suits FromLatin1 (reason.InvalidUtf8 byte) = true
suits (Repair number) (reason.InvalidUtf8 byte) = true
suits FromUtf16 reason.Utf16 = true
suits DropFirstBytes reason.ByteOrderMark = true
suits DropMarks reason.ByteOrderMark = true
suits Truncated r = true
suits Turtle (reason.Unexpected next found) = true
suits Xml (reason.Unexpected next found) = true
suits Xml (reason.NoScheme found) = true
suits Xml (reason.IriChar c) = true
suits Html r = true
suits Json (reason.Unexpected next found) = true
suits Conflict r = true
suits (PercentEncode c) (reason.IriChar d) = nat_eq c d
suits (PercentEncode c) reason.IriEscape = true
suits CloseIri (reason.IriChar c) = true
suits WholeIri (reason.NoScheme found) = true
suits AngleBrackets (reason.Unexpected next found) = true
suits DoubleQuotes (reason.Unexpected next found) = true
suits QuoteInside (reason.Unexpected next found) = true
suits BreakInside reason.OpenLiteral = true
suits Backslash (reason.UnknownEscape found) = true
suits HyphenInTag (reason.NoColon found) = true
suits OtherBlank (reason.Unexpected next found) = true
suits OneStatement (reason.Unexpected next found) = true
suits _ _ = false

-- the hint is about the reason, and it does no harm to a document that has this line under this number
pub record IsFitting (number : ℕ) (line before : List ℕ) (r : Reason) (h : Hint) : Type 0 where
  pub context : LineContext
  pub number_is : context.number ≡ number
  pub safe : IsSafe context line before h
  pub suits_reason : suits h r ≡ true
