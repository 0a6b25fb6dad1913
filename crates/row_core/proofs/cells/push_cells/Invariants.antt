use Rattle.std.proofs.Common.{◌≡◌, ◌+◌, ◌-◌, ◌≤◌, ◌++◌, length, map, take, vec_len, vec_capacity}
use Rattle.row_core.specs.Cells.{cell_of}
use Rattle.row_core.proofs.cells.push_cells.Given as goal

abbrev pub invariant-loop-code : goal.invariant-loop-code
invariant-loop-code l = record {
  room : vec_len l.cells + (length l.codes - l.code-index) ≤ vec_capacity l.cells;
  appended : l.cells.items ≡ l.fn.cells.items ++ map cell_of (take l.code-index l.codes);
}
