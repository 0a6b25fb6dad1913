use Rattle.std.proofs.Common.{◌≡◌, ◌-◌, take, drop, filter}
use Rattle.expression_values.specs.ExpressionOf.{expression_of}
use Rattle.sparql_eval.proofs.FilterSteps.{passes}
use Rattle.sparql_eval.proofs.filters.FilterWorkRowWork.run.Given as goal

abbrev pub invariant-loop-i : goal.invariant-loop-i
invariant-loop-i l = record {
  width : l.made.width ≡ l.self.rows.now.width;
  made : l.made.rows ≡ filter (passes l.self.dict.now (expression_of l.self.condition.now)) (take (l.i - l.from) (drop l.from l.self.rows.now.rows));
}
