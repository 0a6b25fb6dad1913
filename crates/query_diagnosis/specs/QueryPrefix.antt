-- The place after which no query continues a list of terminals (a choice of this project, not fixed
-- by the standard).
use Rattle.std.specs.Prelude.{List, ◌++◌}
use Rattle.sparql_lexer.specs.Terminal.{Terminal}
use Rattle.sparql_grammar.specs.Values.{Names}
use Rattle.sparql_grammar.specs.Symbol.{Select}
use Rattle.sparql_parse.specs.Queries.{IsQuery}

-- the terminals are a query, with some prefix declarations
pub record IsSomeQuery (ts : List Terminal) : Type 0 where
  pub names : Names
  pub query : Select
  pub derived : IsQuery names ts query

-- some query begins with these terminals
pub record IsQueryPrefix (front : List Terminal) : Type 0 where
  pub rest : List Terminal
  pub whole : IsSomeQuery (front ++ rest)
