use Rattle.std.proofs.Common.{◌≡◌, take, length, get_or, false}
use Rattle.algebra_model.specs.Operators.{restrict}
use Rattle.sparql_eval.proofs.projections.restrict_into.Given as goal

abbrev pub invariant-loop-i : goal.invariant-loop-i
invariant-loop-i l = record {
  wide : length l.cells.items ≡ l.i;
  restricted : l.cells.items ≡ restrict (λ k. get_or l.kept k false) (take l.i l.row);
}
