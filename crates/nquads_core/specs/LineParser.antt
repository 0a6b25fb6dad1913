-- Reading a line from left to right: what is at the front of a text, and the rest. None if something else is
-- there. Only private clauses use these definitions; what is promised is in Grammar.
use Rattle.std.specs.Prelude.{◌≡◌, ℕ, Bool, true, false, ◌&&◌, ◌||◌, List, [], ◌∷◌, map, Option, Some, None, Result, Ok, Err, ◌==◌, if◌then◌else◌}
use Rattle.std.specs.Char.{is_ascii_alphabetic, is_ascii_alphanumeric, to_ascii_lowercase}
use Rattle.std.specs.Str.{encode_utf8_all}
use Rattle.nquads_core.specs.declared.fault.LineFault.{LineFault}
use Rattle.nquads_core.specs.declared.fault.LineFault.TheVariants.{Bad, Memory}
use Rattle.rdf_core.specs.declared.lexical.escapes.Inside.TheVariants.{Iri, Quoted}
use Rattle.rdf_core.specs.Characters.{is_label_start, is_label_char, begins}
use Rattle.rdf_core.specs.Lexical.{has_scheme}
use Rattle.rdf_core.specs.LexicalReading.{parts_at, with_bytes}
use Rattle.nquads_core.specs.Terminal.{Terminal, iri_ref, blank_label, quoted, lang_tag, carets, dot, is_blank}
use Rattle.rdf_core.specs.Vocabulary.{xsd_string, rdf_lang_string}
use Rattle.rdf_core.specs.declared.term.Term.{Term}
use Rattle.rdf_core.specs.QuadParts.{QuadParts}
use Rattle.rdf_core.specs.declared.term.Term.TheVariants.{Blank, Iri, Literal}

-- What a function returned, seen by view, is what reading gives, unless memory ran out.
abbrev pub Fails : {Y : Type 0} → LineFault → Option Y → Type 0
Fails Memory read = Unit {0}
Fails Bad read = read ≡ None

-- an Ok is what reading gives; an error is `Bad` only if reading gives None
abbrev pub Gives : {X Y : Type 0} → (X → Y) → Result X LineFault → Option Y → Type 0
Gives view (Ok x) read = read ≡ Some (view x)
Gives view (Err e) read = Fails e read

infixl 10 ◌>>=◌
-- reads the next part, unless the part before it is missing
abbrev pub ◌>>=◌ : {A B : Type 0} → Option A → (A → Option B) → Option B
None >>= f = None
(Some x) >>= f = f x

-- ---- terminals: the bytes of what is meant, and what follows

-- an IRI must have a scheme
abbrev pub if_scheme : List ℕ × List ℕ → Option (List ℕ × List ℕ)
if_scheme x = if has_scheme x.0 then Some x else None

-- after <
unfoldable pub iri_at : List ℕ → Option (List ℕ × List ℕ)
iri_at cs = with_bytes [] (parts_at Iri (Some 62) 0 cs) >>= if_scheme

-- after a quote
unfoldable pub string_at : List ℕ → Option (List ℕ × List ℕ)
string_at cs = with_bytes [] (parts_at Quoted (Some 34) 0 cs)

-- dots belong to a label where a label's character follows them
abbrev pub take_dot : ℕ → List ℕ → List ℕ → List ℕ → List ℕ × List ℕ
take_dot c cs [] rest = ([], c ∷ cs)
take_dot c cs (x ∷ xs) rest = (c ∷ x ∷ xs, rest)

-- after the first character of a label: its other characters, and what follows
unfoldable pub label_tail_at : List ℕ → List ℕ × List ℕ
label_tail_at [] = ([], [])
label_tail_at (c ∷ cs) =
    if is_label_char c then (c ∷ (label_tail_at cs).0, (label_tail_at cs).1)
    else if c == 46 then take_dot c cs (label_tail_at cs).0 (label_tail_at cs).1 else ([], c ∷ cs)

-- after _:
unfoldable pub label_at : List ℕ → Option (List ℕ × List ℕ)
label_at [] = None
label_at (c ∷ cs) = if is_label_start c then Some (encode_utf8_all (c ∷ (label_tail_at cs).0), (label_tail_at cs).1) else None

-- after a character of a subtag
unfoldable pub subtags_at : List ℕ → List ℕ × List ℕ
subtags_at [] = ([], [])
subtags_at (c ∷ cs) =
    if is_ascii_alphanumeric c || (c == 45 && begins is_ascii_alphanumeric cs) then (c ∷ (subtags_at cs).0, (subtags_at cs).1) else ([], c ∷ cs)

-- after the first letter of a tag: its other characters, and what follows
unfoldable pub tag_tail_at : List ℕ → List ℕ × List ℕ
tag_tail_at [] = ([], [])
tag_tail_at (c ∷ cs) =
    if is_ascii_alphabetic c then (c ∷ (tag_tail_at cs).0, (tag_tail_at cs).1)
    else if c == 45 && begins is_ascii_alphanumeric cs then (c ∷ (subtags_at cs).0, (subtags_at cs).1) else ([], c ∷ cs)

-- after @
unfoldable pub tag_at : List ℕ → Option (List ℕ × List ℕ)
tag_at cs = if begins is_ascii_alphabetic cs then Some (map to_ascii_lowercase (tag_tail_at cs).0, (tag_tail_at cs).1) else None

-- the rest after this character
abbrev pub after_char : ℕ → List ℕ → Option (List ℕ)
after_char c [] = None
after_char c (d ∷ cs) = if d == c then Some cs else None

-- the terminal of this kind with these bytes
abbrev pub as_terminal : (List ℕ → Terminal) → Option (List ℕ × List ℕ) → Option (Terminal × List ℕ)
as_terminal kind None = None
as_terminal kind (Some x) = Some (kind x.0, x.1)

-- a terminal without bytes of its own
abbrev pub sign : Terminal → Option (List ℕ) → Option (Terminal × List ℕ)
sign k None = None
sign k (Some rest) = Some (k, rest)

-- the terminal at the front
unfoldable pub terminal_at : List ℕ → Option (Terminal × List ℕ)
terminal_at [] = None
terminal_at (c ∷ cs) =
    if c == 60 then as_terminal iri_ref (iri_at cs)
    else if c == 34 then as_terminal quoted (string_at cs)
    else if c == 95 then (after_char 58 cs >>= λ label. as_terminal blank_label (label_at label))
    else if c == 64 then as_terminal lang_tag (tag_at cs)
    else if c == 94 then sign carets (after_char 94 cs)
    else if c == 46 then Some (dot, cs)
    else None

-- ---- lines

-- the text after its leading blanks
unfoldable pub skip_blanks : List ℕ → List ℕ
skip_blanks [] = []
skip_blanks (c ∷ cs) = if is_blank c then skip_blanks cs else c ∷ cs

-- nothing is left but a comment
abbrev pub is_end : List ℕ → Bool
is_end [] = true
is_end (c ∷ cs) = c == 35

-- the terminal after blanks
abbrev pub next : List ℕ → Option (Terminal × List ℕ)
next cs = terminal_at (skip_blanks cs)

-- a subject or a graph label
abbrev pub node_of : Terminal → Option Term
node_of (iri_ref text) = Some (Iri text)
node_of (blank_label label) = Some (Blank label)
node_of (quoted lexical) = None
node_of (lang_tag tag) = None
node_of carets = None
node_of dot = None

-- a predicate or a datatype IRI
abbrev pub iri_of : Terminal → Option (List ℕ)
iri_of (iri_ref text) = Some text
iri_of (blank_label label) = None
iri_of (quoted lexical) = None
iri_of (lang_tag tag) = None
iri_of carets = None
iri_of dot = None

-- the literal of a string and the terminals after it, the first terminal after the object, and what follows that
abbrev pub literal_of : List ℕ → Terminal × List ℕ → Option (Term × (Terminal × List ℕ))
literal_of lexical (carets, rest) = do
  d ← next rest
  datatype ← iri_of d.0
  w ← next d.1
  Some (Literal lexical datatype None, w)
literal_of lexical (lang_tag tag, rest) = do
  w ← next rest
  Some (Literal lexical rdf_lang_string (Some tag), w)
literal_of lexical (iri_ref text, rest) = Some (Literal lexical xsd_string None, (iri_ref text, rest))
literal_of lexical (blank_label label, rest) = Some (Literal lexical xsd_string None, (blank_label label, rest))
literal_of lexical (quoted other, rest) = Some (Literal lexical xsd_string None, (quoted other, rest))
literal_of lexical (dot, rest) = Some (Literal lexical xsd_string None, (dot, rest))

-- the object that begins with this terminal, given the terminal after it
abbrev pub object_of : Terminal → Terminal × List ℕ → Option (Term × (Terminal × List ℕ))
object_of (iri_ref text) w = Some (Iri text, w)
object_of (blank_label label) w = Some (Blank label, w)
object_of (quoted lexical) w = literal_of lexical w
object_of (lang_tag tag) w = None
object_of carets w = None
object_of dot w = None

-- the graph label g must be followed by the dot
abbrev pub graph_dot : Term → Terminal × List ℕ → Option (Option Term × List ℕ)
graph_dot g (dot, rest) = Some (Some g, rest)
graph_dot g (iri_ref text, rest) = None
graph_dot g (blank_label label, rest) = None
graph_dot g (quoted lexical, rest) = None
graph_dot g (lang_tag tag, rest) = None
graph_dot g (carets, rest) = None

-- the graph label g, and what follows the dot at the front of a text
abbrev pub graph_dot_at : Term → List ℕ → Option (Option Term × List ℕ)
graph_dot_at g cs = next cs >>= graph_dot g

-- the graph label, if there is one, and what follows the dot
abbrev pub graph_of : Terminal × List ℕ → Option (Option Term × List ℕ)
graph_of (dot, rest) = Some (None, rest)
graph_of (iri_ref text, rest) = next rest >>= graph_dot (Iri text)
graph_of (blank_label label, rest) = next rest >>= graph_dot (Blank label)
graph_of (quoted lexical, rest) = None
graph_of (lang_tag tag, rest) = None
graph_of (carets, rest) = None

-- the quad, if nothing follows but blanks and a comment
abbrev pub whole : QuadParts → List ℕ → Option (Option QuadParts)
whole q rest = if is_end (skip_blanks rest) then Some (Some q) else None

-- [2] statement of N-Quads, with its comment
unfoldable pub statement_at : List ℕ → Option (Option QuadParts)
statement_at cs = do
  s ← next cs
  subject ← node_of s.0
  p ← next s.1
  predicate ← iri_of p.0
  o ← next p.1
  w ← next o.1
  x ← object_of o.0 w
  g ← graph_of x.1
  whole (record { s = subject; p = Iri predicate; o = x.0; g = g.0 }) g.1

-- a line: blank or a comment, or a statement
unfoldable pub line_at : List ℕ → Option (Option QuadParts)
line_at cs = if is_end (skip_blanks cs) then Some None else statement_at cs

-- ---- one term and nothing else

-- nothing is left
abbrev pub is_over : List ℕ → Bool
is_over [] = true
is_over (c ∷ cs) = false

-- the term, if nothing is left
abbrev pub alone : Term → List ℕ → Option Term
alone t rest = if is_over rest then Some t else None

-- what follows the quotes
abbrev pub suffix_alone : List ℕ → Terminal × List ℕ → Option Term
suffix_alone lexical (lang_tag tag, rest) = alone (Literal lexical rdf_lang_string (Some tag)) rest
suffix_alone lexical (carets, rest) = do
  d ← terminal_at rest
  datatype ← iri_of d.0
  alone (Literal lexical datatype None) d.1
suffix_alone lexical (iri_ref text, rest) = None
suffix_alone lexical (blank_label label, rest) = None
suffix_alone lexical (quoted other, rest) = None
suffix_alone lexical (dot, rest) = None

-- a literal whose quotes are read: no suffix, or one and nothing more
abbrev pub literal_alone : List ℕ → List ℕ → Option Term
literal_alone lexical rest =
    if is_over rest then Some (Literal lexical xsd_string None) else (terminal_at rest >>= suffix_alone lexical)

-- the term that begins with this terminal, and nothing more
abbrev pub object_alone : Terminal × List ℕ → Option Term
object_alone (iri_ref text, rest) = alone (Iri text) rest
object_alone (blank_label label, rest) = alone (Blank label) rest
object_alone (quoted lexical, rest) = literal_alone lexical rest
object_alone (lang_tag tag, rest) = None
object_alone (carets, rest) = None
object_alone (dot, rest) = None

-- a term in its N-Quads form, and nothing more
unfoldable pub term_at : List ℕ → Option Term
term_at cs = terminal_at cs >>= object_alone
