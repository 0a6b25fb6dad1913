-- The laws of this crate. ECHAR is [160] ECHAR, and UCHAR is [12] UCHAR of N-Quads.
use Rattle.std.specs.Prelude.{◌≡◌, ◌↔◌, ℕ, List, [], ◌∷◌, ◌++◌, Some}
use Rattle.rdf_core.specs.Escapes.{IsIriPart, IsAnyPart, IsWritten}
use Rattle.sparql_lexer.specs.declared.token.Kind.TheVariants as kind
use Rattle.sparql_lexer.specs.Names.{IsLanguageTag, language_tag}
use Rattle.sparql_lexer.specs.Pattern.{Matches}
use Rattle.sparql_lexer.specs.Values.{iri_value, string_value}

-- [139] IRIREF is '<', body and '>'. Its value is the IRI that body writes: characters that the
-- production allows, and UCHAR for these characters. If body writes no IRI, there is no value.
abbrev pub IriValueIsWritten : Type 0
IriValueIsWritten = (body bytes : List ℕ) → (iri_value (60 ∷ (body ++ 62 ∷ [])) ≡ Some bytes) ↔ IsWritten IsIriPart body bytes

-- [156] STRING_LITERAL1 and [157] STRING_LITERAL2 are a body between two quotes. The value is the
-- string that body writes: characters other than the backslash, ECHAR and UCHAR.
abbrev pub ShortValueIsWritten : Type 0
ShortValueIsWritten = (quote : ℕ) (body bytes : List ℕ) → (string_value kind.ShortString (quote ∷ (body ++ quote ∷ [])) ≡ Some bytes) ↔ IsWritten IsAnyPart body bytes

-- [158] STRING_LITERAL_LONG1 and [159] STRING_LITERAL_LONG2: the same between three quotes on each
-- side
abbrev pub LongValueIsWritten : Type 0
LongValueIsWritten =
    (quote : ℕ) (body bytes : List ℕ) → (string_value kind.LongString (quote ∷ quote ∷ quote ∷ (body ++ quote ∷ quote ∷ quote ∷ [])) ≡ Some bytes) ↔ IsWritten IsAnyPart body bytes

-- the three laws above together
pub record ValuesAreWritten : Type 0 where
  pub iri : IriValueIsWritten
  pub short_string : ShortValueIsWritten
  pub long_string : LongValueIsWritten

-- [145] LANGTAG describes '@' and the tags that `is_tag` of rdf_core accepts. N-Quads uses the same
-- test.
abbrev pub OneLanguageTag : Type 0
OneLanguageTag = (text rest : List ℕ) → Matches language_tag text rest ↔ IsLanguageTag text rest
