-- The values of IRIs and strings (SPARQL 1.1 Query Language, sections 4.1.1, 4.1.2, 19.2 and 19.7),
-- by a scan from left to right. The law `values_are_written` states that they are what the
-- characters and escapes write.
use Rattle.std.specs.Prelude.{ℕ, ◌-◌, List, [], length, take, drop, Option, Some, None}
use Rattle.rdf_core.specs.declared.lexical.escapes.Inside.{Inside}
use Rattle.rdf_core.specs.declared.lexical.escapes.Inside.TheVariants as inside
use Rattle.rdf_core.specs.LexicalReading.{parts_at, with_bytes}
use Rattle.sparql_lexer.specs.declared.token.Kind.{Kind}
use Rattle.sparql_lexer.specs.declared.token.Kind.TheVariants as kind

-- the text without the first n and the last n characters
abbrev pub between : ℕ → List ℕ → List ℕ
between n text = take (length (drop n text) - n) (drop n text)

-- the characters, without the text after them
abbrev pub whole_of : Option (List ℕ × List ℕ) → Option (List ℕ)
whole_of None = None
whole_of (Some x) = Some x.0

-- The UTF-8 bytes of the characters and escapes that are written. None if an escape denotes no
-- character that is allowed there (a choice of this project, not fixed by the standard).
unfoldable pub decoded : Inside → List ℕ → Option (List ℕ)
decoded k written = whole_of (with_bytes [] (parts_at k None 0 written))

-- the IRI of an [139] IRIREF
abbrev pub iri_value : List ℕ → Option (List ℕ)
iri_value text = decoded inside.Iri (between 1 text)

-- the number of quotes on each side
abbrev pub quotes_of : Kind → ℕ
quotes_of kind.LongString = 3
quotes_of _ = 1

-- the string between its quotes
abbrev pub string_value : Kind → List ℕ → Option (List ℕ)
string_value k text = decoded inside.Any (between (quotes_of k) text)
