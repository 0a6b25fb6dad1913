use Rattle.std.proofs.Common.{◌≡◌, false, take}
use Rattle.sparql_lexer.specs.Terminal.{terminals}
use Rattle.query_diagnosis.proofs.rules.undeclared.Given as goal
use Rattle.sparql_grammar.specs.Prologue.{lacks_declaration}

abbrev pub invariant-loop-i : goal.invariant-loop-i
invariant-loop-i l = lacks_declaration l.names (take l.i (terminals l.tokens)) ≡ false
