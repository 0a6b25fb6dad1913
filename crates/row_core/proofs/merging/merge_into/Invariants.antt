use Rattle.std.proofs.Common.{◌≡◌, take, length}
use Rattle.algebra_model.specs.Solution.{merge}
use Rattle.row_core.proofs.merging.merge_into.Given as goal

abbrev pub invariant-loop-i : goal.invariant-loop-i
invariant-loop-i l = (l.row.items ≡ merge (take l.i l.a) (take l.i l.b)) × (length l.row.items ≡ l.i)
