use Rattle.row_core.specs.Cells.{cells_of}
use Rattle.row_core.proofs.RowSteps.{wide-shown}
use Rattle.row_core.proofs.rows.Rows.width.Goals as goal

pub returns-clause-wide : goal.returns-clause-wide
returns-clause-wide c = wide-shown c.self.inside.width c.self.inside.count (cells_of c.self.inside.cells) _ c.self.view_is c.self.invariant
