-- The character classes that the grammars of N-Quads and SPARQL share (RDF 1.1 N-Quads, section 4;
-- SPARQL 1.1 Query Language, section 19.8). A character is the number of its code point.
use Rattle.std.specs.Prelude.{ℕ, Bool, ◌&&◌, ◌||◌, not, List, [], ◌∷◌, Option, Some, None, ◌==◌, nat_le, nat_lt, ◌+◌, ◌*◌, if◌then◌else◌, true, false}
use Rattle.std.specs.Char.{digit_value}
use Rattle.std.specs.List.{list_any}

-- the characters that [139] IRIREF allows unescaped (N-Quads [10]): [^#x00-#x20<>"{}|^`\]
abbrev pub is_iri_char : ℕ → Bool
is_iri_char c =
    nat_lt 32 c
    && not (c == 60 || c == 62 || c == 34 || c == 123 || c == 125 || c == 124 || c == 94 || c == 96 || c == 92)

-- The characters that a string on one line allows unescaped: [^#x27#x5C#xA#xD] in
-- [156] STRING_LITERAL1 and [^#x22#x5C#xA#xD] in [157] STRING_LITERAL2. The first argument is the
-- quote.
abbrev pub is_quoted_char : ℕ → ℕ → Bool
is_quoted_char quote c = not (c == quote || c == 92 || c == 10 || c == 13)

-- the characters that N-Quads [11] STRING_LITERAL_QUOTE allows unescaped: [^#x22#x5C#xA#xD]
abbrev pub is_string_char : ℕ → Bool
is_string_char = is_quoted_char 34

-- c is in one of the ranges; both ends belong to a range
abbrev pub in_ranges : List (ℕ × ℕ) → ℕ → Bool
in_ranges ranges c = list_any (λ r. nat_le r.0 c && nat_le c r.1) ranges

-- [164] PN_CHARS_BASE (N-Quads [157s])
abbrev pub pn_chars_base : List (ℕ × ℕ)
pn_chars_base =
    (65, 90) ∷ (97, 122) ∷ (0xC0, 0xD6) ∷ (0xD8, 0xF6) ∷ (0xF8, 0x2FF) ∷ (0x370, 0x37D)
    ∷ (0x37F, 0x1FFF) ∷ (0x200C, 0x200D) ∷ (0x2070, 0x218F) ∷ (0x2C00, 0x2FEF) ∷ (0x3001, 0xD7FF)
    ∷ (0xF900, 0xFDCF) ∷ (0xFDF0, 0xFFFD) ∷ (0x10000, 0xEFFFF) ∷ []

-- a character of [164] PN_CHARS_BASE (N-Quads [157s])
unfoldable pub is_pn_chars_base : ℕ → Bool
is_pn_chars_base c = in_ranges pn_chars_base c

-- [165] PN_CHARS_U | [0-9] of SPARQL, which has no colon
unfoldable pub is_name_start : ℕ → Bool
is_name_start c = in_ranges ((95, 95) ∷ (48, 57) ∷ []) c || is_pn_chars_base c

-- #xB7 | [#x300-#x36F] | [#x203F-#x2040]: PN_CHARS adds these and the hyphen
abbrev pub is_joining : ℕ → Bool
is_joining c = in_ranges ((0xB7, 0xB7) ∷ (0x300, 0x36F) ∷ (0x203F, 0x2040) ∷ []) c

-- [167] PN_CHARS of SPARQL, which has no colon
unfoldable pub is_name_char : ℕ → Bool
is_name_char c = c == 45 || is_joining c || is_name_start c

-- [158s] PN_CHARS_U | [0-9] of N-Quads, which has the colon: the first character of a blank node
-- label
unfoldable pub is_label_start : ℕ → Bool
is_label_start c = c == 58 || is_name_start c

-- [160s] PN_CHARS of N-Quads, which has the colon
unfoldable pub is_label_char : ℕ → Bool
is_label_char c = c == 45 || is_joining c || is_label_start c

-- [160] ECHAR ::= '\' [tbnrf"'\] (N-Quads [153s])
-- The character that the letter after the backslash denotes.
abbrev pub echar : ℕ → Option ℕ
echar e =
    if e == 116 then Some 9 else if e == 98 then Some 8 else if e == 110 then Some 10
    else if e == 114 then Some 13 else if e == 102 then Some 12 else if e == 34 then Some 34
    else if e == 39 then Some 39 else if e == 92 then Some 92 else None

-- [172] HEX ::= [0-9] | [A-F] | [a-f] (N-Quads [162s])
abbrev pub is_hex : ℕ → Bool
is_hex c = nat_lt (digit_value c) 16

-- the value of hexadecimal digits, the most significant digit first
abbrev pub hex_from : ℕ → List ℕ → ℕ
hex_from n [] = n
hex_from n (d ∷ ds) = hex_from (n * 16 + digit_value d) ds

-- the test is true of each character
abbrev pub all_pass : (ℕ → Bool) → List ℕ → Bool
all_pass p [] = true
all_pass p (c ∷ cs) = p c && all_pass p cs

-- the text has a first character, and the test is true of it
abbrev pub begins : (ℕ → Bool) → List ℕ → Bool
begins p [] = false
begins p (c ∷ cs) = p c
