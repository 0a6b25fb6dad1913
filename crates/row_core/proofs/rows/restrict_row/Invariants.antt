use Rattle.std.proofs.Common.{◌≡◌, ◌++◌, take, drop, get_or, false, length}
use borrow.Rule.Slice.PartMut.{put_mid}
use Rattle.algebra_model.specs.Operators.{restrict}
use Rattle.row_core.specs.Cells.{cells_of}
use Rattle.row_core.proofs.rows.restrict_row.Given as goal

abbrev pub invariant-loop-i : goal.invariant-loop-i
invariant-loop-i l = cells_of l.cells ≡ put_mid l.start (length l.kept) (cells_of l.initial.cells)
    (restrict (λ k. get_or l.kept k false) (take l.i (take (length l.kept) (drop l.start (cells_of l.initial.cells))))
    ++ drop l.i (take (length l.kept) (drop l.start (cells_of l.initial.cells))))
