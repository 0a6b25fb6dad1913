-- The results of the readers of a group's parts.
use Rattle.std.specs.Prelude.{List, Result, Ok, Err}
use Rattle.std.specs.Borrow.{Bor}
use Rattle.sparql_lexer.specs.declared.token.Token.{Token}
use Rattle.sparql_lexer.specs.Terminal.{Terminal, terminals}
use Rattle.sparql_tree.specs.GroupTree.{GroupTree}
use Rattle.sparql_grammar.specs.Values.{Names}
use Rattle.sparql_grammar.specs.Symbol as the
use Rattle.sparql_expression.specs.declared.fault.ParseFault.{ParseFault}
use Rattle.sparql_expression.specs.ParseResult.{ParseResult, Parses}

-- A result for the elements fs from the terminals `after` is a result for the elements es from the
-- terminals `before`. The reader has consumed the terminals between them.
abbrev pub IsElementRun : (names : Names) (es fs : GroupTree) (before after : List Terminal) → Type 0
IsElementRun names es fs before after = (answer : ParseResult (the.others fs)) → Parses names (the.others fs) after answer → Parses names (the.body es) before answer

-- what the reader of a run returns for the elements that it added
abbrev pub ParsesElementRun : (names : Names) (es fs : GroupTree) → List Terminal → Result (Bor (List Token)) ParseFault → Type 0
ParsesElementRun names es fs before (Ok after) = IsElementRun names es fs before (terminals after.now)
ParsesElementRun names es fs before (Err e) = Parses names (the.body es) before (Err e)

-- the same after an element, where a dot may follow
abbrev pub IsAfterDot : (before after : List Terminal) → Type 0
IsAfterDot before after = (names : Names) (es : GroupTree) (answer : ParseResult (the.body es)) → Parses names (the.body es) after answer → Parses names (the.after_other es) before answer
