-- Reads the parts of an IRI or a string from left to right. None means that there is no part or
-- closing delimiter at the place where one must be. The contracts for N-Quads use Escapes, and only
-- private clauses use these definitions. In sparql_lexer, Values defines the values of IRIs and
-- strings with them.
use Rattle.std.specs.Prelude.{◌≡◌, ℕ, zero, suc, ◌+◌, ◌*◌, Bool, true, false, not, List, [], ◌∷◌, ◌++◌, drop, Option, Some, None, option_and_then, ◌==◌, if◌then◌else◌}
use Rattle.std.specs.Char.{digit_value}
use Rattle.std.specs.Str.{IsUtf8, chars, encode_utf8_all}
use Rattle.std.specs.List.{list_all}
use lib.Utf8.{scalar}
use Rattle.rdf_core.specs.declared.lexical.escapes.Inside.{Inside}
use Rattle.rdf_core.specs.declared.lexical.escapes.Inside.TheVariants.{Iri, Quoted, Any}
use Rattle.rdf_core.specs.Characters.{is_iri_char, is_string_char, echar, is_hex}

-- The result of a function, mapped by view, is the result of the definition.
abbrev pub Finds : {X Y : Type 0} → (X → Y) → Option X → Option Y → Type 0
Finds view None read = read ≡ None
Finds view (Some x) read = read ≡ Some (view x)

-- the value of n hexadecimal digits after digits of the value v, and the text after them
unfoldable pub hex_at : ℕ → ℕ → List ℕ → Option (ℕ × List ℕ)
hex_at zero v cs = Some (v, cs)
hex_at (suc n) v [] = None
hex_at (suc n) v (c ∷ cs) = if is_hex c then hex_at n (v * 16 + digit_value c) cs else None

-- the character of n digits, and the number of characters of the digits and the letter before them
abbrev pub scalar_of : ℕ → Option (ℕ × List ℕ) → Option (ℕ × ℕ)
scalar_of n None = None
scalar_of n (Some x) = if scalar x.0 then Some (x.0, n + 1) else None

-- [12] UCHAR of N-Quads after its backslash: the character that it denotes, and the number of
-- characters after the backslash
unfoldable pub uchar_at : List ℕ → Option (ℕ × ℕ)
uchar_at [] = None
uchar_at (u ∷ cs) = if u == 117 then scalar_of 4 (hex_at 4 0 cs) else if u == 85 then scalar_of 8 (hex_at 8 0 cs) else None

-- an escape in an IRI must denote a character that may occur unescaped
abbrev pub keep_iri_char : Option (ℕ × ℕ) → Option (ℕ × ℕ)
keep_iri_char None = None
keep_iri_char (Some e) = if is_iri_char e.0 then Some e else None

-- [160] ECHAR of SPARQL has one letter; any other text is read as UCHAR
abbrev pub or_uchar : Option ℕ → List ℕ → Option (ℕ × ℕ)
or_uchar None cs = uchar_at cs
or_uchar (Some c) cs = Some (c, 1)

-- ECHAR or UCHAR after its backslash: the character, and the number of characters after the
-- backslash
unfoldable pub string_escape_at : List ℕ → Option (ℕ × ℕ)
string_escape_at [] = None
string_escape_at (e ∷ cs) = or_uchar (echar e) (e ∷ cs)

-- the escape after a backslash inside this kind of delimiters
unfoldable pub escape_at : Inside → List ℕ → Option (ℕ × ℕ)
escape_at Iri cs = keep_iri_char (uchar_at cs)
escape_at Quoted cs = string_escape_at cs
escape_at Any cs = string_escape_at cs

-- read returns the character c, and rest is the text after the escape
pub record NamesChar (read : Option (ℕ × ℕ)) (text : List ℕ) (c : ℕ) (rest : List ℕ) : Type 0 where
  pub skipped : ℕ
  pub is : read ≡ Some (c, skipped)
  pub left : chars rest ≡ drop skipped (chars text)
  pub utf8 : IsUtf8 rest

-- the character may occur unescaped
abbrev pub is_raw : Inside → ℕ → Bool
is_raw Iri c = is_iri_char c
is_raw Quoted c = is_string_char c
is_raw Any c = not (c == 92)

-- the character is the closing delimiter, if there is one
abbrev pub is_close : Option ℕ → ℕ → Bool
is_close None c = false
is_close (Some close) c = c == close

-- the result at the end of the text: no characters if there is no closing delimiter, and otherwise
-- None
abbrev pub at_text_end : Option ℕ → Option (List ℕ × List ℕ)
at_text_end None = Some ([], [])
at_text_end (Some close) = None

-- the characters that were read, with one more before them
abbrev pub with_char : ℕ → Option (List ℕ × List ℕ) → Option (List ℕ × List ℕ)
with_char c None = None
with_char c (Some x) = Some (c ∷ x.0, x.1)

-- The characters up to the closing delimiter, or up to the end if there is none, and the text after
-- them. The next `skipped` characters of the text are already read.
unfoldable pub parts_at : Inside → Option ℕ → ℕ → List ℕ → Option (List ℕ × List ℕ)
parts_at k close skipped [] = at_text_end close
parts_at k close (suc n) (c ∷ cs) = parts_at k close n cs
parts_at k close zero (c ∷ cs) =
    if is_close close c then Some ([], cs)
    else if c == 92 then option_and_then (λ e. with_char e.0 (parts_at k close e.1 cs)) (escape_at k cs)
    else if is_raw k c then with_char c (parts_at k close 0 cs) else None

-- the bytes that were read before, followed by the bytes of these characters
abbrev pub with_bytes : List ℕ → Option (List ℕ × List ℕ) → Option (List ℕ × List ℕ)
with_bytes front None = None
with_bytes front (Some x) = Some (front ++ encode_utf8_all x.0, x.1)

-- the text begins with unescaped bytes, `front`, and the closing delimiter follows them
pub record IsPlain (k : Inside) (close : ℕ) (text front rest : List ℕ) : Type 0 where
  pub parts : text ≡ front ++ close ∷ rest
  pub front_utf8 : IsUtf8 front
  pub tail_utf8 : IsUtf8 (close ∷ rest)
  pub rest_utf8 : IsUtf8 rest
  pub raw : list_all (is_raw k) front ≡ true
