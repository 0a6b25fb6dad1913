use Rattle.std.proofs.Common.{◌≡◌, ◌*◌, drop, length, map, get_or, false}
use Rattle.algebra_model.specs.Operators.{restrict}
use Rattle.row_core.specs.Cells.{cells_of}
use Rattle.row_core.specs.RowList.{rows_in, stride}
use Rattle.row_core.proofs.rows.restrict_cells.Given as goal

abbrev pub invariant-loop-i : goal.invariant-loop-i
invariant-loop-i l = record {
  restricted : rows_in (length l.kept) (stride (length l.kept)) l.i (cells_of l.cells) ≡ map (restrict (λ k. get_or l.kept k false)) (rows_in (length l.kept) (stride (length l.kept)) l.i (cells_of l.initial.cells));
  rest : drop (l.i * stride (length l.kept)) (cells_of l.cells) ≡ drop (l.i * stride (length l.kept)) (cells_of l.initial.cells);
  long : length (cells_of l.cells) ≡ length (cells_of l.initial.cells);
}
