-- The terminals of N-Quads: which texts they are, and what each denotes (RDF 1.1 N-Quads, grammar).
-- A text is a list of characters.
use Rattle.std.specs.Prelude.{◌≡◌, ℕ, ◌≤◌, Bool, true, false, ◌&&◌, ◌||◌, List, [], ◌∷◌, ◌++◌, length, map, ◌==◌}
use Rattle.std.specs.Char.{to_ascii_lowercase}
use Rattle.std.specs.Str.{encode_utf8_all}
use Rattle.rdf_core.specs.Characters.{is_label_start, is_label_char}
use Rattle.rdf_core.specs.Escapes.{IsIriPart, IsStringPart, Writes}
use Rattle.rdf_core.specs.Lexical.{is_tag, has_scheme}

-- what may be between terminals: spaces and tabs
abbrev pub is_blank : ℕ → Bool
is_blank c = c == 32 || c == 9

-- [141s] BLANK_NODE_LABEL after its first character: ((PN_CHARS | '.')* PN_CHARS)?
abbrev pub is_label_tail : List ℕ → Bool
is_label_tail [] = true
is_label_tail (c ∷ []) = is_label_char c
is_label_tail (c ∷ d ∷ cs) = (is_label_char c || c == 46) && is_label_tail (d ∷ cs)

-- [141s] BLANK_NODE_LABEL after _: is (PN_CHARS_U | [0-9]) ((PN_CHARS | '.')* PN_CHARS)?
abbrev pub is_label : List ℕ → Bool
is_label [] = false
is_label (c ∷ cs) = is_label_start c && is_label_tail cs

-- ---- terminals

-- A terminal by its kind, with the bytes of what it denotes.
pub data Terminal : Type 0 where
  iri_ref : List ℕ → Terminal
  blank_label : List ℕ → Terminal
  quoted : List ℕ → Terminal
  lang_tag : List ℕ → Terminal
  carets : Terminal
  dot : Terminal

-- [10] IRIREF ::= '<' ([^#x00-#x20<>"{}|^`\] | UCHAR)* '>'; that the IRI has a scheme is a rule of this project
pub record IsIriRef (text bytes : List ℕ) : Type 0 where
  pub body : List ℕ
  pub chars : List ℕ
  pub parts : text ≡ 60 ∷ (body ++ 62 ∷ [])
  pub writes : Writes IsIriPart body chars
  pub utf8 : bytes ≡ encode_utf8_all chars
  pub scheme : has_scheme bytes ≡ true

-- [11] STRING_LITERAL_QUOTE ::= '"' ([^#x22#x5C#xA#xD] | ECHAR | UCHAR)* '"'
pub record IsQuoted (text bytes : List ℕ) : Type 0 where
  pub body : List ℕ
  pub chars : List ℕ
  pub parts : text ≡ 34 ∷ (body ++ 34 ∷ [])
  pub writes : Writes IsStringPart body chars
  pub utf8 : bytes ≡ encode_utf8_all chars

-- [141s] BLANK_NODE_LABEL ::= '_:' and a label
pub record IsBlankLabel (text bytes : List ℕ) : Type 0 where
  pub label : List ℕ
  pub parts : text ≡ 95 ∷ 58 ∷ label
  pub right : is_label label ≡ true
  pub utf8 : bytes ≡ encode_utf8_all label

-- [144s] LANGTAG ::= '@' and a tag; that tags are kept in lower case is a rule of this project
pub record IsLangTag (text bytes : List ℕ) : Type 0 where
  pub tag : List ℕ
  pub parts : text ≡ 64 ∷ tag
  pub right : is_tag tag ≡ true
  pub lower : bytes ≡ map to_ascii_lowercase tag

-- the text is a terminal of this kind; the last two are '^^' and '.'
abbrev pub IsTerminal : List ℕ → Terminal → Type 0
IsTerminal text (iri_ref bytes) = IsIriRef text bytes
IsTerminal text (quoted bytes) = IsQuoted text bytes
IsTerminal text (blank_label bytes) = IsBlankLabel text bytes
IsTerminal text (lang_tag bytes) = IsLangTag text bytes
IsTerminal text carets = text ≡ 94 ∷ 94 ∷ []
IsTerminal text dot = text ≡ 46 ∷ []

-- No longer front of the whole text is a terminal, of any kind: at each place the longest is taken.
abbrev pub IsLongest : List ℕ → List ℕ → Type 0
IsLongest text rest =
    (front : List ℕ) (remaining : List ℕ) (k : Terminal) → front ++ remaining ≡ text ++ rest
    → IsTerminal front k → length front ≤ length text
