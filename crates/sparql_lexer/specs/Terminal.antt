-- The terminals of a query, as values of the specification.
use Rattle.std.specs.Prelude.{ℕ, List, map}
use Rattle.sparql_lexer.specs.declared.token.Kind.{Kind}
use Rattle.sparql_lexer.specs.declared.token.Token.{Token}

-- the kind of the terminal, and its characters as in the text
pub data Terminal : Type 0 where
  terminal : Kind → List ℕ → Terminal

-- the terminal of a token
abbrev pub terminal_of : Token → Terminal
terminal_of t = terminal t.kind t.text.now

-- the terminals of the tokens, in order
abbrev pub terminals : List Token → List Terminal
terminals = map terminal_of
