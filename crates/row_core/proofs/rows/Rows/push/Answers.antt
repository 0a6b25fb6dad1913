use Rattle.row_core.specs.Cells.{cells_of}
use Rattle.row_core.proofs.RowSteps.{rows-pushed}
use Rattle.row_core.proofs.rows.Rows.push.Goals as goal

pub returns-clause-added : goal.returns-clause-added
returns-clause-added c =
    let r = c.self.inside in
    rows-pushed r.width r.count (cells_of r.cells) _ c.self.view_is c.args.row.now (cells_of c.add_cells.new.cells)
    c.requires.wide c.self.invariant c.in_ok-add_cells.ensures.added
