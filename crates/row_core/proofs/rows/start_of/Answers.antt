use Rattle.std.proofs.Common.{◌*◌, ap, arith}
use Rattle.row_core.specs.RowList.{stride}
use Rattle.row_core.specs.Cells.{cells_of}
use Rattle.row_core.proofs.RowSteps.{row-inside}
use Rattle.std.proofs.Common.{length, ◌≤◌}
use Rattle.row_core.proofs.rows.start_of.Goals as goal

pub overflow_mul-result : goal.overflow_mul-result
overflow_mul-result c =
    let w = c.args.width in
    let h : w ≤ stride w = omega arith in
    let i = row-inside w (stride w) c.args.count c.args.row (length (cells_of c.args.cells.now)) c.requires.below h c.requires.whole in
    let e = ap (λ s. c.args.row * s) c.stride.ensures.value in
    let l = c.len-long.ensures.value in
    let t = c.len-long.type_inv in
    omega arith

pub returns-clause-inside : goal.returns-clause-inside
returns-clause-inside c =
    let w = c.args.width in
    let h : w ≤ stride w = omega arith in
    let i = row-inside w (stride w) c.args.count c.args.row (length (cells_of c.args.cells.now)) c.requires.below h c.requires.whole in
    let e = ap (λ s. c.args.row * s) c.stride.ensures.value in
    omega arith
