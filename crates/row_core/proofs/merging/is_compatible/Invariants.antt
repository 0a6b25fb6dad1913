use Rattle.std.proofs.Common.{◌≡◌, nat_eq, drop}
use Rattle.algebra_model.specs.Solution.{is_compatible}
use Rattle.row_core.proofs.merging.is_compatible.Given as goal

abbrev pub invariant-loop-i : goal.invariant-loop-i
invariant-loop-i l = is_compatible nat_eq (drop l.i l.a) (drop l.i l.b) ≡ is_compatible nat_eq l.a l.b
