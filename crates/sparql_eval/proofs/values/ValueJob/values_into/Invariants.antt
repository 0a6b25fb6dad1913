use Rattle.std.proofs.Common.{◌-◌, take, drop}
use Rattle.expression_values.specs.ExpressionOf.{expression_of}
use Rattle.sparql_eval.specs.Values.{AreValues}
use Rattle.sparql_eval.proofs.values.ValueJob.values_into.Given as goal

abbrev pub invariant-loop-i : goal.invariant-loop-i
invariant-loop-i l = AreValues l.self.dict.now l.own (expression_of l.self.expression.now) (take (l.i - l.from) (drop l.from l.self.rows.now.rows)) l.values.items
