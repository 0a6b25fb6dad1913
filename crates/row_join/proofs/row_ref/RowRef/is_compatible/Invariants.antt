use Rattle.std.proofs.Common.{◌≡◌, drop, nat_eq}
use Rattle.algebra_model.specs.Solution.{is_compatible}
use Rattle.row_join.specs.Row.{row_of}
use Rattle.row_join.proofs.row_ref.RowRef.is_compatible.Given as goal

abbrev pub invariant-loop-variable : goal.invariant-loop-variable
invariant-loop-variable l = is_compatible nat_eq (drop l.variable (row_of l.self)) (drop l.variable (row_of l.other)) ≡ is_compatible nat_eq (row_of l.self) (row_of l.other)
