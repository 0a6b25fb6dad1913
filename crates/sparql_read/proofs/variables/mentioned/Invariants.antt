use Rattle.std.proofs.Common.{◌≡◌, ◌++◌, drop}
use Rattle.sparql_lexer.specs.Terminal.{terminals}
use Rattle.sparql_grammar.specs.Mentioned.{mentioned}
use Rattle.sparql_read.proofs.variables.mentioned.Given as goal

abbrev pub invariant-loop-token : goal.invariant-loop-token
invariant-loop-token l = l.names.items ++ mentioned (terminals (drop l.token-index l.tokens)) ≡ mentioned (terminals l.tokens)
