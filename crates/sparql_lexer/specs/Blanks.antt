-- White space and comments between terminals (SPARQL 1.1 Query Language, sections 19.3 and 19.4).
use Rattle.std.specs.Prelude.{ℕ, List, [], ◌∷◌, Bool, true, false, nat_eq, if◌then◌else◌}
use Rattle.sparql_lexer.specs.Characters.{is_space, is_line_end}

-- the text after white space and comments; `inside` is true if the text begins inside a comment
abbrev pub beyond : Bool → List ℕ → List ℕ
beyond inside [] = []
beyond true (c ∷ cs) = if is_line_end c then beyond false cs else beyond true cs
beyond false (c ∷ cs) = if nat_eq 35 c then beyond true cs else (if is_space c then beyond false cs else (c ∷ cs))

-- A comment is `#` and the characters up to the end of the line or of the text. It counts as white
-- space.
abbrev pub after_blanks : List ℕ → List ℕ
after_blanks = beyond false
