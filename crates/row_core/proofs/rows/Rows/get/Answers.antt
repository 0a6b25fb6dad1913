use Rattle.std.proofs.Common.{◌+◌, ℕ, None, get_or, ap, ◌∙◌, arith}
use Rattle.row_core.specs.Cells.{cells_of}
use Rattle.row_core.proofs.RowSteps.{count-shown, cell-shown, width-shown}
use Rattle.row_core.proofs.rows.Rows.get.Goals as goal

pub start_of-start-requires-clause-below : goal.start_of-start-requires-clause-below
start_of-start-requires-clause-below c =
    let r = c.self.inside in
    let n = count-shown r.width r.count (cells_of r.cells) _ c.self.view_is in
    omega arith

pub get-requires : goal.get-requires
get-requires c =
    let r = c.self.inside in
    let w = width-shown r.width r.count (cells_of r.cells) _ c.self.view_is in
    let i = c.start_of-start.ensures.inside in
    record { within = omega arith }

pub returns : goal.returns
returns c =
    let r = c.self.inside in
    record {
      value =
          c.get.ensures.value
          ∙ ap (λ (k : ℕ). get_or (cells_of r.cells) (k + c.args.variable) None) c.start_of-start.ensures.value
          ∙ cell-shown r.width r.count (cells_of r.cells) _ c.self.view_is c.args.row c.args.variable c.requires.row c.requires.variable;
    }
