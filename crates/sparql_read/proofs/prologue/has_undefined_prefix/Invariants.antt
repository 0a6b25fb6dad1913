use Rattle.std.proofs.Common.{◌≡◌, drop}
use Rattle.std.specs.List.{list_any}
use Rattle.sparql_lexer.specs.Terminal.{terminals}
use Rattle.sparql_grammar.specs.Prologue.{is_undefined}
use Rattle.sparql_read.proofs.prologue.has_undefined_prefix.Given as goal

abbrev pub invariant-loop-token : goal.invariant-loop-token
invariant-loop-token l = list_any (is_undefined l.names) (terminals (drop l.token-index l.tokens)) ≡ list_any (is_undefined l.names) (terminals l.tokens)
