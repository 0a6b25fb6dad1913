use Rattle.std.proofs.Common.{◌≡◌, drop}
use Rattle.sparql_lexer.specs.Terminal.{terminals}
use Rattle.sparql_grammar.specs.Prologue.{declared_onto, declarations}
use Rattle.sparql_read.proofs.prologue.declarations_of.Given as goal

abbrev pub invariant-loop-i : goal.invariant-loop-i
invariant-loop-i l = declared_onto l.names (terminals (drop l.i l.tokens)) ≡ declarations (terminals l.tokens)
