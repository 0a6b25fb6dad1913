use Rattle.std.proofs.Common.{◌≡◌, take}
use Rattle.algebra_model.specs.Operators.{project}
use Rattle.sparql_eval.proofs.projections.projected.Given as goal

abbrev pub invariant-loop-i : goal.invariant-loop-i
invariant-loop-i l = record {
  width : l.made.width ≡ l.rows.width;
  made : l.made.rows ≡ project l.variables (take l.i l.rows.rows);
}
