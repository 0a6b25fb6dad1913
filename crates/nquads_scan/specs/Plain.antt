-- Slices without an escape. Only private clauses use these definitions; what is promised is in Canonical.
use Rattle.std.specs.Prelude.{◌≡◌, ℕ, ◌⊎◌, Bool, true, false, not, ◌&&◌, ◌||◌, ◌==◌, if◌then◌else◌, List, [], ◌∷◌, ◌++◌}
use Rattle.std.specs.Char.{is_ascii_digit, is_ascii_lowercase}
use Rattle.std.specs.List.{list_all}
use Rattle.std.specs.Str.{IsUtf8, bytes_eq}
use Rattle.rdf_core.specs.Characters.{is_iri_char, is_string_char}
use Rattle.rdf_core.specs.Lexical.{has_scheme}
use Rattle.rdf_core.specs.Vocabulary.{xsd_string}

-- an IRI with a scheme, written without an escape
abbrev pub is_plain_iri : List ℕ → Bool
is_plain_iri bytes = list_all is_iri_char bytes && has_scheme bytes

-- the text is < and > around what is inside
pub record IsBracketed (text inside : List ℕ) : Type 0 where
  pub parts : text ≡ 60 ∷ (inside ++ 62 ∷ [])
  pub utf8 : IsUtf8 inside

-- the text is a string without an escape, in quotes, and then the suffix
pub record IsPlainString (text string suffix : List ℕ) : Type 0 where
  pub parts : text ≡ 34 ∷ (string ++ 34 ∷ suffix)
  pub utf8 : IsUtf8 string
  pub raw : list_all is_string_char string ≡ true

-- the text is ^^ and a datatype other than xsd:string, written without an escape
pub record IsDatatype (text : List ℕ) : Type 0 where
  pub datatype : List ℕ
  pub is : text ≡ 94 ∷ 94 ∷ 60 ∷ (datatype ++ 62 ∷ [])
  pub utf8 : IsUtf8 datatype
  pub plain : is_plain_iri datatype ≡ true
  pub other : bytes_eq datatype xsd_string ≡ false

-- The bytes go on with a tag in lower case. The arguments say whether no hyphen is before them, and whether a hyphen or
-- the beginning is directly before them.
abbrev pub tag_left : Bool → Bool → List ℕ → Bool
tag_left primary fresh [] = not fresh
tag_left primary fresh (c ∷ cs) =
    if c == 45 then not fresh && tag_left false true cs
    else (is_ascii_lowercase c || (is_ascii_digit c && not primary)) && tag_left primary false cs

-- the text is @ and a language tag in lower case
pub record IsLowerTag (text : List ℕ) : Type 0 where
  pub tag : List ℕ
  pub is : text ≡ 64 ∷ tag
  pub lower : tag_left true true tag ≡ true

-- nothing, a datatype other than xsd:string, or a language tag in lower case
abbrev pub IsPlainSuffix : List ℕ → Type 0
IsPlainSuffix text = (text ≡ []) ⊎ (IsDatatype text ⊎ IsLowerTag text)

-- the text is a blank node label after _:
pub record IsLabelled (text label : List ℕ) : Type 0 where
  pub parts : text ≡ 95 ∷ 58 ∷ label
  pub utf8 : IsUtf8 label
