use Rattle.row_core.specs.Cells.{cells_of}
use Rattle.row_core.proofs.RestrictSteps.{rows-restricted}
use Rattle.row_core.proofs.rows.Rows.restrict.Goals as goal

pub returns-clause-restricted : goal.returns-clause-restricted
returns-clause-restricted c =
    let r = c.self.inside in
    rows-restricted r.width r.count (cells_of r.cells) (cells_of c.restrict_cells.new.cells) c.args.kept.now c.args.self.now c.self.view_is c.requires.wide
    c.restrict_cells.ensures.restricted
