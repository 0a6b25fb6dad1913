-- The query of a text (SPARQL 1.1 Query Language, section 19.8). A text is the list of its
-- characters.
use Rattle.std.specs.Prelude.{◌≡◌, ℕ, List, []}
use Rattle.sparql_lexer.specs.Terminal.{Terminal}
use Rattle.sparql_lexer.specs.Scan.{Scans}
use Rattle.sparql_tree.specs.QueryTree.{QueryTree}
use Rattle.sparql_grammar.specs.Symbol.{Select}
use Rattle.sparql_grammar.specs.Symbol as the
use Rattle.sparql_grammar.specs.Productions.{right_side}
use Rattle.sparql_grammar.specs.Derivation.{Derivation}
use Rattle.sparql_grammar.specs.Prologue.{declarations}
use Rattle.sparql_grammar.specs.Mentioned.{mentioned}

-- the tree of a query, with the variables that occur in its terminals
abbrev pub tree_of : Select → List Terminal → QueryTree
tree_of s ts = record {
  distinct = s.distinct;
  selection = s.selection;
  group = s.group;
  limit = s.limit;
  offset = s.offset;
  mentioned = mentioned ts;
}

-- The text is a list of terminals, each the longest at its place. The productions derive the query
-- from these terminals, with the prefix declarations of the text.
pub record Derives (text : List ℕ) (q : QueryTree) : Type 0 where
  pub terminals : List Terminal
  pub scans : Scans text terminals []
  pub select : Select
  pub derived : Derivation (declarations terminals) the.query (right_side the.query) terminals select []
  pub tree : q ≡ tree_of select terminals
