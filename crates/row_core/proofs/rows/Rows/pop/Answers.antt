use Rattle.row_core.specs.Cells.{cells_of}
use Rattle.row_core.proofs.RowSteps.{rows-popped}
use Rattle.row_core.proofs.rows.Rows.pop.Goals as goal

pub returns-clause-popped : goal.returns-clause-popped
returns-clause-popped c =
    let r = c.self.inside in
    rows-popped r.width r.count (cells_of r.cells) _ c.self.view_is c.start_of-start.result (cells_of c.truncate.new.self)
    c.requires.some c.start_of-start.ensures.value c.truncate.ensures.kept
