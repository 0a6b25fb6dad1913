use Rattle.std.proofs.Common.{◌≡◌, take}
use Rattle.sparql_lexer.specs.Terminal.{terminals}
use Rattle.query_plan.proofs.offset.have_same_front.Given as goal

abbrev pub invariant-loop-i : goal.invariant-loop-i
invariant-loop-i l = take l.i (terminals l.a) ≡ take l.i (terminals l.b)
