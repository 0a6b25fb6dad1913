-- Names, variables, blank node labels, language tags and words (SPARQL 1.1 Query Language, section
-- 19.8). Characters.antt has the classes of [164] PN_CHARS_BASE, [165] PN_CHARS_U, [166] VARNAME,
-- [167] PN_CHARS and [172] HEX.
use Rattle.std.specs.Prelude.{◌≡◌, ℕ, Bool, true, ◌||◌, List, ◌∷◌, ◌++◌, nat_eq}
use Rattle.rdf_core.specs.Characters.{is_hex}
use Rattle.rdf_core.specs.Lexical.{is_tag}
use Rattle.sparql_lexer.specs.Pattern.{Pattern, character, is, some, many, perhaps, ◌▸◌, ◌or◌}
use Rattle.sparql_lexer.specs.Characters.{is_letter, is_letter_or_digit, is_base, is_label_start, is_variable_part, is_name_part, is_local_start, is_local_part, is_local_escape}

-- [?$]
abbrev pub is_variable_sign : ℕ → Bool
is_variable_sign c = nat_eq 63 c || nat_eq 36 c

-- [143] VAR1 ::= '?' VARNAME
-- [144] VAR2 ::= '$' VARNAME
abbrev pub variable : Pattern
variable = character is_variable_sign ▸ character is_label_start ▸ many (character is_variable_part)

-- ((part | '.')* part)?
abbrev pub tail : Pattern → Pattern
tail part = perhaps (many (part or is 46) ▸ part)

-- [140] PNAME_NS ::= PN_PREFIX? ':'
-- [168] PN_PREFIX ::= PN_CHARS_BASE ((PN_CHARS | '.')* PN_CHARS)?
abbrev pub namespace : Pattern
namespace = perhaps (character is_base ▸ tail (character is_name_part)) ▸ is 58

-- [170] PLX ::= PERCENT | PN_LOCAL_ESC
-- [171] PERCENT ::= '%' HEX HEX
-- [173] PN_LOCAL_ESC ::= '\' ('_' | '~' | '.' | ..)
abbrev pub local_escape : Pattern
local_escape = (is 37 ▸ character is_hex ▸ character is_hex) or (is 92 ▸ character is_local_escape)

-- PN_CHARS | ':' | PLX
abbrev pub local_part : Pattern
local_part = character is_local_part or local_escape

-- [169] PN_LOCAL ::= (PN_CHARS_U | ':' | [0-9] | PLX)
--     ((PN_CHARS | '.' | ':' | PLX)* (PN_CHARS | ':' | PLX))?
abbrev pub local : Pattern
local = (character is_local_start or local_escape) ▸ tail local_part

-- [141] PNAME_LN ::= PNAME_NS PN_LOCAL
abbrev pub prefixed_name : Pattern
prefixed_name = namespace ▸ local

-- [142] BLANK_NODE_LABEL ::= '_:' (PN_CHARS_U | [0-9]) ((PN_CHARS | '.')* PN_CHARS)?
abbrev pub blank_label : Pattern
blank_label = is 95 ▸ is 58 ▸ character is_label_start ▸ tail (character is_name_part)

-- '-' [a-zA-Z0-9]+
abbrev pub subtag : Pattern
subtag = is 45 ▸ some (character is_letter_or_digit)

-- [145] LANGTAG ::= '@' [a-zA-Z]+ ('-' [a-zA-Z0-9]+)*
abbrev pub language_tag : Pattern
language_tag = is 64 ▸ some (character is_letter) ▸ many subtag

-- The text is '@', a tag that `is_tag` of rdf_core accepts, and `rest`. N-Quads uses the same test.
-- The law `one_language_tag` states that `language_tag` describes the same texts.
pub record IsLanguageTag (text rest : List ℕ) : Type 0 where
  pub tag : List ℕ
  pub parts : text ≡ 64 ∷ (tag ++ rest)
  pub right : is_tag tag ≡ true

-- a keyword, or another word
abbrev pub word : Pattern
word = some (character is_letter)
