-- The variables of a text, each time that one occurs.
use Rattle.std.specs.Prelude.{ℕ, List, [], ◌∷◌, Option, Some, None}
use Rattle.sparql_lexer.specs.Terminal.{Terminal, terminal}
use Rattle.sparql_grammar.specs.Class.{variable_of}

-- the name, if there is one, before the others
abbrev pub and_name : Option (List ℕ) → List (List ℕ) → List (List ℕ)
and_name None xs = xs
and_name (Some x) xs = x ∷ xs

-- their names, in the order of the text
abbrev pub mentioned : List Terminal → List (List ℕ)
mentioned [] = []
mentioned (terminal k x ∷ ts) = and_name (variable_of k x) (mentioned ts)
