use Rattle.std.proofs.Common.{◌≡◌, ◌+◌, ◌-◌, ◌≤◌, ◌++◌, length, map, take, vec_len, vec_capacity}
use Rattle.row_core.specs.Cells.{cell_of}
use Rattle.row_core.proofs.cells.push_codes.Given as goal

abbrev pub invariant-loop-cell : goal.invariant-loop-cell
invariant-loop-cell l = record {
  room : vec_len l.codes + (length l.cells - l.cell-index) ≤ vec_capacity l.codes;
  appended : map cell_of l.codes.items ≡ map cell_of l.fn.codes.items ++ take l.cell-index l.cells;
}
