-- Literals that are rewritten to their canonical texts. Only private clauses use these definitions; what is promised is
-- in Canonical.
use Rattle.std.specs.Prelude.{◌≡◌, ℕ, ◌<◌, Bool, true, false, List, ◌++◌, length}
use Rattle.std.specs.List.{flat_map, list_all}
use Rattle.std.specs.Str.{IsUtf8, chars}
use Rattle.rdf_core.specs.Characters.{is_string_char}
use Rattle.rdf_core.specs.Escapes.{IsEnclosed, IsStringPart, IsWritten}
use Rattle.rdf_core.specs.Serialization.{escaped}
use Rattle.nquads_scan.specs.Canonical.{HasForm}

-- the text begins with bytes that a string may have unescaped, and the rest follows them
pub record IsRunThen (text run rest : List ℕ) : Type 0 where
  pub parts : text ≡ run ++ rest
  pub run_utf8 : IsUtf8 run
  pub rest_utf8 : IsUtf8 rest
  pub raw : list_all is_string_char run ≡ true
  pub some : 0 < length run

-- the text begins with an escape of this character, and the rest follows it
pub record IsEscapeThen (text : List ℕ) (c : ℕ) (rest : List ℕ) : Type 0 where
  pub one : List ℕ
  pub parts : chars text ≡ one ++ chars rest
  pub part : IsStringPart one c
  pub utf8 : IsUtf8 rest
  pub shorter : length rest < length text

-- The text up to the rest writes a string. The bytes of the string in a canonical text were appended.
pub record IsPutTo (text old new rest : List ℕ) : Type 0 where
  pub body : List ℕ
  pub string : List ℕ
  pub parts : chars text ≡ body ++ chars rest
  pub written : IsWritten IsStringPart body string
  pub put : new ≡ old ++ flat_map escaped string
  pub utf8 : IsUtf8 rest

-- The same of a string that ends with a closing quote, after which the rest is.
pub record IsPutString (text old new rest : List ℕ) : Type 0 where
  pub string : List ℕ
  pub enclosed : IsEnclosed IsStringPart 34 (chars text) string (chars rest)
  pub put : new ≡ old ++ flat_map escaped string
  pub utf8 : IsUtf8 rest

-- more bytes were appended
abbrev pub IsLonger : List ℕ → List ℕ → Type 0
IsLonger old new = (more : List ℕ) × (new ≡ old ++ more)

-- the canonical text of the slice was appended, or nothing
abbrev pub IsPut : List ℕ → List ℕ → List ℕ → Bool → Type 0
IsPut raw old new true = (text : List ℕ) × HasForm raw text × (new ≡ old ++ text)
IsPut raw old new false = new ≡ old
