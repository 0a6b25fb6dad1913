-- The texts that complete a line after a state of the reader. Only private clauses use these
-- definitions; what is promised is in Place. A text is a list of characters.
use Rattle.std.specs.Prelude.{◌≡◌, ℕ, zero, suc, ◌/◌, Bool, true, false, ◌&&◌, ◌||◌, List, [], ◌∷◌, ◌++◌, Some, Result, MatchResult, ◌==◌, nat_le}
use Rattle.std.specs.Char.{is_ascii_alphabetic, is_ascii_alphanumeric, IsScalar}
use Rattle.std.specs.List.{list_all, list_any}
use lib.Utf8.{scalar}
use Rattle.rdf_core.specs.Characters.{begins, in_ranges, is_iri_char}
use Rattle.rdf_core.specs.Lexical.{has_scheme, is_scheme_rest}
use Rattle.rdf_core.specs.LexicalReading.{escape_at, hex_at, parts_at}
use Rattle.rdf_core.specs.declared.lexical.escapes.Inside.TheVariants as inside
use Rattle.nquads_core.specs.LineParser.{after_char, label_at, label_tail_at, subtags_at, tag_tail_at}
use Rattle.line_diagnosis.specs.declared.reason.Next.{Next}
use Rattle.line_diagnosis.specs.declared.reason.Next.TheVariants as next
use Rattle.line_diagnosis.specs.declared.reason.Reason.{Reason}
use Rattle.line_diagnosis.specs.declared.state.Digits.{Digits}
use Rattle.line_diagnosis.specs.declared.state.Part.{Part}
use Rattle.line_diagnosis.specs.declared.state.Part.TheVariants as position
use Rattle.line_diagnosis.specs.declared.state.Scheme.{Scheme}
use Rattle.line_diagnosis.specs.declared.state.Scheme.TheVariants as scheme
use Rattle.line_diagnosis.specs.declared.state.State.{State}
use Rattle.line_diagnosis.specs.declared.state.State.TheVariants as state
use Rattle.line_diagnosis.specs.Turn.{Completes, is_last, part, suffix}

-- the part of the statement after a term at this position
abbrev pub after : Part → Next
after position.Subject = next.Predicate
after position.Predicate = next.Object
after position.Object = next.Graph
after position.Datatype = next.Graph
after position.Graph = next.Dot

-- the dot may come next
abbrev pub is_before_dot : Next → Bool
is_before_dot next.Graph = true
is_before_dot next.Dot = true
is_before_dot _ = false

-- ---- IRIs

-- the characters complete a scheme, of which this part is read, or it is read to its end
abbrev pub completes_scheme : Scheme → List ℕ → Bool
completes_scheme scheme.Unread cs = has_scheme cs
completes_scheme scheme.Begun cs = is_scheme_rest cs
completes_scheme scheme.Read cs = true

-- the code point may come next in an IRI
abbrev pub may_come : Scheme → ℕ → Bool
may_come scheme.Unread c = is_ascii_alphabetic c
may_come scheme.Begun c = c == 58 || (is_ascii_alphanumeric c || c == 43 || c == 45 || c == 46)
may_come scheme.Read c = is_iri_char c && scalar c

-- the rest of an IRI, and of the line: the characters of `front` and then those of the text
-- complete the scheme, and the next `skipped` characters of the text are already read
pub record RestOfIri (p : Part) (s : Scheme) (front : List ℕ) (skipped : ℕ) (cs : List ℕ) : Type 0 where
  pub chars : List ℕ
  pub rest : List ℕ
  pub read : parts_at inside.Iri (Some 62) skipped cs ≡ Some (chars, rest)
  pub scheme : completes_scheme s (front ++ chars) ≡ true
  pub more : Completes (part (after p)) rest

-- the rest of an escape after its backslash, of the IRI and of the line
pub record RestOfIriEscape (p : Part) (s : Scheme) (cs : List ℕ) : Type 0 where
  pub c : ℕ
  pub size : ℕ
  pub escape : escape_at inside.Iri cs ≡ Some (c, size)
  pub iri : RestOfIri p s (c ∷ []) size cs

-- digits that make these digits a character
pub record RestOfDigits (d : Digits) (c : ℕ) (cs : List ℕ) : Type 0 where
  pub left : List ℕ
  pub digits : hex_at (suc d.more) d.value cs ≡ Some (c, left)
  pub scalar : IsScalar c

-- the rest of the digits of an escape, of the IRI and of the line
pub record RestOfIriDigits (p : Part) (s : Scheme) (d : Digits) (cs : List ℕ) : Type 0 where
  pub c : ℕ
  pub digits : RestOfDigits d c cs
  pub allowed : is_iri_char c ≡ true
  pub iri : RestOfIri p s (c ∷ []) (suc d.more) cs

-- the number without its last hexadecimal digits
abbrev pub head : ℕ → ℕ → ℕ
head zero n = n
head (suc k) n = head k (n / 16)

-- each range is of code points, and its first is not after its last
abbrev pub are_code_points : List (ℕ × ℕ) → Bool
are_code_points ranges = list_all (λ r. nat_le r.0 r.1 && nat_le r.1 0x10FFFF) ranges

-- the code points of the ranges are those of which the test is true
pub record AreRanges (ranges : List (ℕ × ℕ)) (test : ℕ → Bool) : Type 0 where
  pub ordered : are_code_points ranges ≡ true
  pub same : (c : ℕ) → in_ranges ranges c ≡ test c

-- a number of one of the ranges begins with these digits, and `more` digits follow them
abbrev pub is_head : List (ℕ × ℕ) → ℕ → ℕ → Bool
is_head ranges more value =
    list_any (λ r. nat_le (head more r.0) value && nat_le value (head more r.1)) ranges

-- ---- strings

-- the rest of a string, and of the line
pub record RestOfString (skipped : ℕ) (cs : List ℕ) : Type 0 where
  pub chars : List ℕ
  pub rest : List ℕ
  pub read : parts_at inside.Quoted (Some 34) skipped cs ≡ Some (chars, rest)
  pub more : Completes suffix rest

-- the rest of an escape after its backslash, of the string and of the line
pub record RestOfStringEscape (cs : List ℕ) : Type 0 where
  pub c : ℕ
  pub size : ℕ
  pub escape : escape_at inside.Quoted cs ≡ Some (c, size)
  pub string : RestOfString size cs

-- the rest of the digits of an escape, of the string and of the line
pub record RestOfStringDigits (d : Digits) (cs : List ℕ) : Type 0 where
  pub c : ℕ
  pub digits : RestOfDigits d c cs
  pub string : RestOfString (suc d.more) cs

-- ---- labels, language tags and carets

-- the text begins with this character, and this is true of what follows it
pub record RestAfter (c : ℕ) (rest_is : List ℕ → Type 0) (cs : List ℕ) : Type 0 where
  pub rest : List ℕ
  pub after : after_char c cs ≡ Some rest
  pub is : rest_is rest

-- the rest of a label after `_:`, and of the line
pub record RestOfLabel (p : Part) (cs : List ℕ) : Type 0 where
  pub label : List ℕ
  pub rest : List ℕ
  pub read : label_at cs ≡ Some (label, rest)
  pub more : Completes (part (after p)) rest

-- the rest of a label that does not end yet, and of the line
pub record RestAfterDots (p : Part) (cs : List ℕ) : Type 0 where
  pub c : ℕ
  pub tail : List ℕ
  pub rest : List ℕ
  pub read : label_tail_at cs ≡ (c ∷ tail, rest)
  pub more : Completes (part (after p)) rest

-- ---- states

-- the text completes the line
abbrev pub Accepts : State → List ℕ → Type 0
Accepts (state.Between n) cs = Completes (part n) cs
Accepts state.AfterString cs = Completes suffix cs
Accepts state.Comment cs = Unit {0}
Accepts (state.Iri p s) cs = RestOfIri p s [] 0 cs
Accepts (state.IriBackslash p s) cs = RestOfIriEscape p s cs
Accepts (state.IriDigits p s d) cs = RestOfIriDigits p s d cs
Accepts state.String cs = RestOfString 0 cs
Accepts state.StringBackslash cs = RestOfStringEscape cs
Accepts (state.StringDigits d) cs = RestOfStringDigits d cs
Accepts state.Caret cs = RestAfter 94 (Completes (part next.Datatype)) cs
Accepts state.At cs =
    (begins is_ascii_alphabetic cs ≡ true) × Completes (part next.Graph) (tag_tail_at cs).1
Accepts state.Tag cs = Completes (part next.Graph) (tag_tail_at cs).1
Accepts state.Hyphen cs =
    (begins is_ascii_alphanumeric cs ≡ true) × Completes (part next.Graph) (subtags_at cs).1
Accepts state.Subtag cs = Completes (part next.Graph) (subtags_at cs).1
Accepts (state.Underscore p) cs = RestAfter 58 (RestOfLabel p) cs
Accepts (state.LabelStart p) cs = RestOfLabel p cs
Accepts (state.Label p) cs = Completes (part (after p)) (label_tail_at cs).1
Accepts (state.LabelDot p) cs = Completes (part (after p)) (label_tail_at (46 ∷ cs)).1
Accepts (state.LabelDots p) cs = RestAfterDots p cs

-- the digits of an escape can denote a character of which the test is true
pub record CanDenote (test : ℕ → Bool) (d : Digits) : Type 0 where
  pub c : ℕ
  pub allowed : test c ≡ true
  pub begins : head (suc d.more) c ≡ d.value

-- nothing more has to come: blanks and comments may be left, or a dot after a label ends the statement
abbrev pub may_end : State → Bool
may_end (state.Between n) = is_last (part n)
may_end state.Comment = true
may_end (state.LabelDot p) = is_before_dot (after p)
may_end _ = false

-- in an escape the digits can denote a character that may come there
abbrev pub CanEnd : State → Type 0
CanEnd (state.IriDigits p s d) = CanDenote (may_come s) d
CanEnd (state.StringDigits d) = CanDenote scalar d
CanEnd other = Unit {0}

-- The texts of `old` that begin with the character c are those of `new` with c before them.
pub record IsStep (old : List ℕ → Type 0) (c : ℕ) (new : State) : Type 0 where
  pub forth : (cs : List ℕ) → old (c ∷ cs) → Accepts new cs
  pub back : (cs : List ℕ) → Accepts new cs → old (c ∷ cs)
  pub can_end : CanEnd new

-- no text of `old` begins with the character c
abbrev pub IsStuck : (List ℕ → Type 0) → ℕ → Type 0
IsStuck old c = (cs : List ℕ) → old (c ∷ cs) → ⊥

-- the state after the character c, or an error if no text of `old` begins with it
abbrev pub Steps : (List ℕ → Type 0) → ℕ → Result State Reason → Type 0
Steps old c result = MatchResult result (λ new. IsStep old c new) (λ reason. IsStuck old c)
