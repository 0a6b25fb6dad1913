use Rattle.row_core.specs.Cells.{cells_of}
use Rattle.row_core.proofs.RowSteps.{rows-appended}
use Rattle.row_core.proofs.rows.Rows.extend.Goals as goal

pub returns-clause-added : goal.returns-clause-added
returns-clause-added c =
    let r = c.self.inside in
    let o = c.others.inside in
    rows-appended r.width r.count (cells_of r.cells) _ c.self.view_is o.width o.count (cells_of o.cells) (cells_of c.append.new.self) _
    c.others.view_is c.requires.same_width c.self.invariant c.in_ok-append.ensures.added
