-- How the characters of an IRI or a string are written between their delimiters, unescaped or as
-- escapes (RDF 1.1 N-Quads, section 4; SPARQL 1.1 Query Language, sections 19.2, 19.7 and 19.8). A
-- text is a list of characters. HEX is [172] HEX of SPARQL and [162s] HEX of N-Quads.
use Rattle.std.specs.Prelude.{◌≡◌, ◌≢◌, ℕ, true, ◌⊎◌, List, [], ◌∷◌, ◌++◌, length, Some}
use Rattle.std.specs.Char.{IsScalar}
use Rattle.std.specs.Str.{encode_utf8_all}
use Rattle.rdf_core.specs.declared.lexical.escapes.Inside.{Inside}
use Rattle.rdf_core.specs.declared.lexical.escapes.Inside.TheVariants.{Iri, Quoted, Any}
use Rattle.rdf_core.specs.Characters.{is_iri_char, is_string_char, echar, is_hex, hex_from, all_pass}

-- N-Quads [12] UCHAR ::= '\u' HEX HEX HEX HEX | '\U' HEX HEX HEX HEX HEX HEX HEX HEX
-- The digits are the number of the Unicode scalar value c.
pub record IsUchar (text : List ℕ) (c : ℕ) : Type 0 where
  pub letter : ℕ
  pub digits : List ℕ
  pub parts : text ≡ 92 ∷ letter ∷ digits
  pub count : ((letter ≡ 117) × (length digits ≡ 4)) ⊎ ((letter ≡ 85) × (length digits ≡ 8))
  pub hex : all_pass is_hex digits ≡ true
  pub names : hex_from 0 digits ≡ c
  pub scalar : IsScalar c

-- [160] ECHAR ::= '\' [tbnrf"'\] (N-Quads [153s])
pub record IsEchar (text : List ℕ) (c : ℕ) : Type 0 where
  pub letter : ℕ
  pub parts : text ≡ 92 ∷ letter ∷ []
  pub names : echar letter ≡ Some c

-- One character of an IRI. An escape may denote only a character that may occur unescaped (a choice
-- of this project, not fixed by the standard).
abbrev pub IsIriPart : List ℕ → ℕ → Type 0
IsIriPart text c = (is_iri_char c ≡ true) × ((text ≡ c ∷ []) ⊎ IsUchar text c)

-- one character of a string in double quotes
abbrev pub IsStringPart : List ℕ → ℕ → Type 0
IsStringPart text c = ((is_string_char c ≡ true) × (text ≡ c ∷ [])) ⊎ (IsEchar text c ⊎ IsUchar text c)

-- one character of any string; which characters may occur unescaped between its quotes is not
-- checked
abbrev pub IsAnyPart : List ℕ → ℕ → Type 0
IsAnyPart text c = ((c ≢ 92) × (text ≡ c ∷ [])) ⊎ (IsEchar text c ⊎ IsUchar text c)

-- one character as written inside this kind of delimiters
abbrev pub IsPart : Inside → List ℕ → ℕ → Type 0
IsPart Iri = IsIriPart
IsPart Quoted = IsStringPart
IsPart Any = IsAnyPart

-- the text writes these characters, in this order
abbrev pub Writes : (List ℕ → ℕ → Type 0) → List ℕ → List ℕ → Type 0
Writes Part text [] = text ≡ []
Writes Part text (c ∷ cs) = (one : List ℕ) × (rest : List ℕ) × (text ≡ one ++ rest) × Part one c × Writes Part rest cs

-- the UTF-8 bytes of the characters that the text writes
pub record IsWritten (part : List ℕ → ℕ → Type 0) (text bytes : List ℕ) : Type 0 where
  pub chars : List ℕ
  pub writes : Writes part text chars
  pub utf8 : bytes ≡ encode_utf8_all chars

-- the text is a list of parts, the closing delimiter, and `rest`
pub record IsEnclosed (part : List ℕ → ℕ → Type 0) (close : ℕ) (text bytes rest : List ℕ) : Type 0 where
  pub body : List ℕ
  pub parts : text ≡ body ++ close ∷ rest
  pub written : IsWritten part body bytes
