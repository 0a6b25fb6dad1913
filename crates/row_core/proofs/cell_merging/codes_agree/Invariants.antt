use Rattle.std.proofs.Common.{◌≡◌, nat_eq, drop, map}
use Rattle.algebra_model.specs.Solution.{is_compatible}
use Rattle.row_core.specs.Cells.{cell_of}
use Rattle.row_core.proofs.cell_merging.codes_agree.Given as goal

abbrev pub invariant-loop-i : goal.invariant-loop-i
invariant-loop-i l = is_compatible nat_eq (map cell_of (drop l.i l.a)) (map cell_of (drop l.i l.b)) ≡ is_compatible nat_eq (map cell_of l.a) (map cell_of l.b)
