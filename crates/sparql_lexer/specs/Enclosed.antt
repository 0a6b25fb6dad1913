-- Delimited terminals: IRIs, strings, and ANON (SPARQL 1.1 Query Language, section 19.8). Section
-- 19.7 describes ECHAR, and section 19.2 the escapes `\u` and `\U`, here called UCHAR as in RDF 1.1
-- N-Quads. HEX is [172] HEX, and WS is [162] WS. The standard replaces UCHAR in the whole text
-- before it applies the grammar. Here UCHAR is a part of IRIs and strings only (a choice of this
-- project).
use Rattle.std.specs.Prelude.{ℕ, not}
use Rattle.rdf_core.specs.Characters.{is_hex}
use Rattle.sparql_lexer.specs.Pattern.{Pattern, character, is, many, perhaps, ◌▸◌, ◌or◌}
use Rattle.sparql_lexer.specs.Characters.{is_iri_character, is_short_character, is_long_character, is_escape_letter, is_space, is_line_end}

-- HEX HEX HEX HEX
abbrev pub four_digits : Pattern
four_digits = character is_hex ▸ character is_hex ▸ character is_hex ▸ character is_hex

-- N-Quads [12] UCHAR ::= '\u' HEX HEX HEX HEX | '\U' HEX HEX HEX HEX HEX HEX HEX HEX
-- The pattern has no backslash, and does not check which character the digits denote.
abbrev pub numbered : Pattern
numbered = (is 117 ▸ four_digits) or (is 85 ▸ four_digits ▸ four_digits)

-- UCHAR
abbrev pub number_escape : Pattern
number_escape = is 92 ▸ numbered

-- ECHAR | UCHAR
-- [160] ECHAR ::= '\' [tbnrf"'\]
abbrev pub escape : Pattern
escape = is 92 ▸ (character is_escape_letter or numbered)

-- [^<>"{}|^`\]-[#x00-#x20] | UCHAR
abbrev pub iri_piece : Pattern
iri_piece = character is_iri_character or number_escape

-- [139] IRIREF ::= '<' ([^<>"{}|^`\]-[#x00-#x20] | UCHAR)* '>'
abbrev pub iri : Pattern
iri = is 60 ▸ many iri_piece ▸ is 62

-- [^#x27#x5C#xA#xD] | ECHAR | UCHAR, or [^#x22#x5C#xA#xD] | ECHAR | UCHAR; the argument is the
-- quote
abbrev pub short_piece : ℕ → Pattern
short_piece quote = character (is_short_character quote) or escape

-- [156] STRING_LITERAL1 ::= "'" (..)* "'"
-- [157] STRING_LITERAL2 ::= '"' (..)* '"'
abbrev pub short_string : ℕ → Pattern
short_string quote = is quote ▸ many (short_piece quote) ▸ is quote

-- ("'" | "''")? ([^'\] | ECHAR | UCHAR), or the same with the other quote; the argument is the
-- quote
abbrev pub long_piece : ℕ → Pattern
long_piece quote = perhaps (is quote or (is quote ▸ is quote)) ▸ (character (is_long_character quote) or escape)

-- the delimiter of a long string
abbrev pub three : ℕ → Pattern
three quote = is quote ▸ is quote ▸ is quote

-- [158] STRING_LITERAL_LONG1 ::= "'''" (..)* "'''"
-- [159] STRING_LITERAL_LONG2 ::= '"""' (..)* '"""'
abbrev pub long_string : ℕ → Pattern
long_string quote = three quote ▸ many (long_piece quote) ▸ three quote

-- a comment with the line end that ends it
abbrev pub comment : Pattern
comment = is 35 ▸ many (character (λ c. not (is_line_end c))) ▸ character is_line_end

-- [163] ANON ::= '[' WS* ']', where a comment counts as white space
abbrev pub anonymous : Pattern
anonymous = is 91 ▸ many (character is_space or comment) ▸ is 93
