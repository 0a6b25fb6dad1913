use Rattle.std.proofs.Common.{take}
use Rattle.sparql_eval.specs.Possible.{AreNumbersAt}
use Rattle.sparql_eval.proofs.possible_graphs.numbers_at.Given as goal

abbrev pub invariant-loop-i : goal.invariant-loop-i
invariant-loop-i l = AreNumbersAt (take l.i l.rows.rows) l.variable l.numbers.items
