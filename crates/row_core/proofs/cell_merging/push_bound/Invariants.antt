use Rattle.std.proofs.Common.{◌≡◌, ◌+◌, ◌-◌, ◌≤◌, ◌++◌, length, map, take, vec_len, vec_capacity}
use Rattle.algebra_model.specs.Solution.{merge}
use Rattle.row_core.specs.Cells.{cell_of}
use Rattle.row_core.proofs.cell_merging.push_bound.Given as goal

abbrev pub invariant-loop-i : goal.invariant-loop-i
invariant-loop-i l = record {
  room : vec_len l.codes + (length l.a - l.i) ≤ vec_capacity l.codes;
  appended : map cell_of l.codes.items ≡ map cell_of l.fn.codes.items ++ merge (take l.i (map cell_of l.a)) (take l.i (map cell_of l.b));
}
