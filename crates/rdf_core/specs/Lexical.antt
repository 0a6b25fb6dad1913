-- Language tags and IRI schemes (RDF 1.1 N-Quads, section 4; SPARQL 1.1 Query Language, section
-- 19.8; RFC 3987, section 2.2). A text is a list of characters.
use Rattle.std.specs.Prelude.{ℕ, Bool, true, false, ◌&&◌, ◌||◌, List, [], ◌∷◌, ◌==◌}
use Rattle.std.specs.Char.{is_ascii_alphabetic, is_ascii_alphanumeric}
use Rattle.rdf_core.specs.Characters.{begins}

-- letters and digits, and hyphens that a letter or a digit follows
abbrev pub is_subtags : List ℕ → Bool
is_subtags [] = true
is_subtags (c ∷ cs) = (is_ascii_alphanumeric c || (c == 45 && begins is_ascii_alphanumeric cs)) && is_subtags cs

-- letters, and then optionally a hyphen and subtags
abbrev pub is_tag_tail : List ℕ → Bool
is_tag_tail [] = true
is_tag_tail (c ∷ cs) =
    (is_ascii_alphabetic c && is_tag_tail cs) || (c == 45 && begins is_ascii_alphanumeric cs && is_subtags cs)

-- [145] LANGTAG ::= '@' [a-zA-Z]+ ('-' [a-zA-Z0-9]+)* (N-Quads [144s]), without the `@`
abbrev pub is_tag : List ℕ → Bool
is_tag cs = begins is_ascii_alphabetic cs && is_tag_tail cs

-- letters, digits, + - . up to a colon
abbrev pub is_scheme_rest : List ℕ → Bool
is_scheme_rest [] = false
is_scheme_rest (c ∷ cs) = c == 58 || ((is_ascii_alphanumeric c || c == 43 || c == 45 || c == 46) && is_scheme_rest cs)

-- a scheme and ':' (RFC 3987, section 2.2), so the IRI is not relative
abbrev pub has_scheme : List ℕ → Bool
has_scheme [] = false
has_scheme (c ∷ cs) = is_ascii_alphabetic c && is_scheme_rest cs
