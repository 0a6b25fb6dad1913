use Rattle.std.proofs.Common.{rules}
use Rattle.row_core.proofs.CellSteps.{coded-at, coded-more}
use Rattle.row_core.proofs.cells.push_codes.Goals as goal

pub code_of-requires : goal.code_of-requires
code_of-requires c = record { coded = coded-at c.args.cells.now c.loop-cell.cell-index c.requires.coded c.loop-cell-test.true }

pub loop-cell-preserved : goal.loop-cell-preserved
loop-cell-preserved c = record {
  room = search rules;
  appended = coded-more c.args.cells.now c.loop-cell.cell-index c.args.codes.now.items _ _ _ c.loop-cell-test.true c.loop-cell.invariant.appended c.code_of.ensures.cell c.push_reserved.ensures.items;
}
