-- The character classes of the productions (SPARQL 1.1 Query Language, section 19.8). A character
-- is the number of its code point. The classes that N-Quads shares are defined in rdf_core;
-- `is_hex` there is [172] HEX.
use Rattle.std.specs.Prelude.{ℕ, Bool, ◌&&◌, ◌||◌, not, [], ◌∷◌, nat_le, nat_eq}
use Rattle.std.specs.Option.{is_some}
use Rattle.rdf_core.specs.Characters.{in_ranges, is_pn_chars_base, is_joining, is_name_start, is_name_char, is_iri_char, is_quoted_char, echar}

-- [0-9]
abbrev pub is_digit : ℕ → Bool
is_digit c = nat_le 48 c && nat_le c 57

-- [A-Za-z]
abbrev pub is_letter : ℕ → Bool
is_letter c = (nat_le 65 c && nat_le c 90) || (nat_le 97 c && nat_le c 122)

-- [A-Za-z0-9]
abbrev pub is_letter_or_digit : ℕ → Bool
is_letter_or_digit c = is_letter c || is_digit c

-- [164] PN_CHARS_BASE
abbrev pub is_base : ℕ → Bool
is_base = is_pn_chars_base

-- [165] PN_CHARS_U | [0-9]: the first character of a variable name and of a blank node label
abbrev pub is_label_start : ℕ → Bool
is_label_start = is_name_start

-- the other characters of [166] VARNAME: PN_CHARS_U | [0-9] | #xB7 | [#x300-#x36F] |
-- [#x203F-#x2040]
abbrev pub is_variable_part : ℕ → Bool
is_variable_part c = is_label_start c || is_joining c

-- [167] PN_CHARS
abbrev pub is_name_part : ℕ → Bool
is_name_part = is_name_char

-- PN_CHARS_U | ':' | [0-9] of [169] PN_LOCAL
abbrev pub is_local_start : ℕ → Bool
is_local_start c = is_label_start c || nat_eq 58 c

-- PN_CHARS | ':' of [169] PN_LOCAL
abbrev pub is_local_part : ℕ → Bool
is_local_part c = is_name_part c || nat_eq 58 c

-- the characters after the backslash of [173] PN_LOCAL_ESC: _ ~ . - ! $ & ' ( ) * + , ; = / ? # @ %
abbrev pub is_local_escape : ℕ → Bool
is_local_escape c = in_ranges ((33, 33) ∷ (35, 47) ∷ (59, 59) ∷ (61, 61) ∷ (63, 64) ∷ (95, 95) ∷ (126, 126) ∷ []) c

-- [^#x00-#x20<>"{}|^`\] of [139] IRIREF
abbrev pub is_iri_character : ℕ → Bool
is_iri_character = is_iri_char

-- [^#x27#x5C#xA#xD] of [156] STRING_LITERAL1 or [^#x22#x5C#xA#xD] of [157] STRING_LITERAL2; the
-- first argument is the quote
abbrev pub is_short_character : ℕ → ℕ → Bool
is_short_character = is_quoted_char

-- [^'\] of [158] STRING_LITERAL_LONG1 or [^"\] of [159] STRING_LITERAL_LONG2; the first argument is
-- the quote
abbrev pub is_long_character : ℕ → ℕ → Bool
is_long_character quote c = not (nat_eq quote c || nat_eq 92 c)

-- [tbnrf"'\]: the character after the backslash of [160] ECHAR
abbrev pub is_escape_letter : ℕ → Bool
is_escape_letter c = is_some (echar c)

-- [162] WS ::= #x20 | #x9 | #xD | #xA
abbrev pub is_space : ℕ → Bool
is_space c = nat_eq 32 c || (nat_eq 9 c || (nat_eq 13 c || nat_eq 10 c))

-- LF or CR, which end a comment (section 19.4)
abbrev pub is_line_end : ℕ → Bool
is_line_end c = nat_eq 13 c || nat_eq 10 c
