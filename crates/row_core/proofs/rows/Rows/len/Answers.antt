use Rattle.row_core.specs.Cells.{cells_of}
use Rattle.row_core.proofs.RowSteps.{count-shown}
use Rattle.row_core.proofs.rows.Rows.len.Goals as goal

pub returns : goal.returns
returns c = record { value = count-shown c.self.inside.width c.self.inside.count (cells_of c.self.inside.cells) _ c.self.view_is }
