use Rattle.std.proofs.Common.{◌≡◌, drop}
use Rattle.algebra_model.specs.Operators.{share}
use Rattle.row_join.specs.Row.{row_of}
use Rattle.row_join.proofs.row_ref.RowRef.shares.Given as goal

abbrev pub invariant-loop-variable : goal.invariant-loop-variable
invariant-loop-variable l = share (drop l.variable (row_of l.self)) (drop l.variable (row_of l.other)) ≡ share (row_of l.self) (row_of l.other)
