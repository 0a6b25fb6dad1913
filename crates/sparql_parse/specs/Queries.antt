-- The results of the reader of a query.
use Rattle.std.specs.Prelude.{ℕ, List, [], Result, Ok, Err}
use Rattle.std.specs.Borrow.{Bor}
use Rattle.sparql_lexer.specs.declared.token.Token.{Token}
use Rattle.sparql_lexer.specs.Terminal.{Terminal, terminals}
use Rattle.sparql_tree.specs.GroupTree.{group_of}
use Rattle.sparql_tree.specs.QueryTree.{selection_of}
use Rattle.sparql_grammar.specs.Values.{Names}
use Rattle.sparql_grammar.specs.Symbol.{Select}
use Rattle.sparql_grammar.specs.Symbol as the
use Rattle.sparql_grammar.specs.Productions.{right_side}
use Rattle.sparql_grammar.specs.Derivation.{Derivation}
use Rattle.sparql_expression.specs.declared.fault.ParseFault.{ParseFault}
use Rattle.sparql_expression.specs.declared.fault.ParseFault.TheVariants.{Syntax, Memory}
use Rattle.sparql_expression.specs.ParseResult.{ParseResult, Parses}
use Rattle.sparql_parse.specs.declared.select.Select as code

-- the model of a query of the code
abbrev pub select_of : code.Select → Select
select_of q = record {
  distinct = q.distinct;
  selection = selection_of q.selection;
  group = group_of q.group.items;
  limit = q.limit;
  offset = q.offset;
}

-- all of the terminals are the query
abbrev pub IsQuery : (names : Names) → List Terminal → Select → Type 0
IsQuery names ts q = Derivation names the.query (right_side the.query) ts q []

-- The result is a query if the terminals are this query, and Syntax if they are no query. Memory
-- says nothing about them.
abbrev pub IsParsed : (names : Names) → List Terminal → Result code.Select ParseFault → Type 0
IsParsed names ts (Ok q) = IsQuery names ts (select_of q)
IsParsed names ts (Err Syntax) = (q : Select) → IsQuery names ts q → ⊥
IsParsed names ts (Err Memory) = Unit {0}

-- A result from the terminals after a declaration is a result from the declaration and them.
abbrev pub IsDeclaration : (names : Names) (before after : List Terminal) → Type 0
IsDeclaration names before after = (answer : ParseResult the.query) → Parses names the.query after answer → Parses names the.declared before answer

-- what the reader of one [6] PrefixDecl returns
abbrev pub ParsesDeclaration : (names : Names) → List Terminal → Result (Bor (List Token)) ParseFault → Type 0
ParsesDeclaration names before (Ok after) = IsDeclaration names before (terminals after.now)
ParsesDeclaration names before (Err e) = Parses names the.declared before (Err e)
