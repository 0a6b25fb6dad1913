use Rattle.std.proofs.Common.{ℕ, Some, length, take, drop, sym, ap, ◌∙◌, arith}
use Rattle.std.proofs.lemmas.List.{length-take, length-drop}
use Rattle.row_core.specs.Cells.{cells_of}
use Rattle.row_core.proofs.RowSteps.{count-shown, row-shown, width-shown}
use Rattle.row_core.proofs.rows.Rows.read.Goals as goal

pub start_of-start-requires-clause-below : goal.start_of-start-requires-clause-below
start_of-start-requires-clause-below c =
    let r = c.self.inside in
    let n = count-shown r.width r.count (cells_of r.cells) _ c.self.view_is in
    omega arith

pub returns-clause-found : goal.returns-clause-found
returns-clause-found c =
    let r = c.self.inside in
    row-shown r.width r.count (cells_of r.cells) _ c.self.view_is c.args.i c.requires.inside
    ∙ ap (λ (k : ℕ). Some (take r.width (drop k (cells_of r.cells)))) (sym c.start_of-start.ensures.value)
    ∙ ap Some (sym c.in_ok-read.ensures.read)

pub returns-clause-wide : goal.returns-clause-wide
returns-clause-wide c =
    let r = c.self.inside in
    let e = ap length c.in_ok-read.ensures.read in
    let t = length-take r.width (drop c.start_of-start.result (cells_of r.cells)) in
    let d = length-drop c.start_of-start.result (cells_of r.cells) in
    let i = c.start_of-start.ensures.inside in
    let w = width-shown r.width r.count (cells_of r.cells) _ c.self.view_is in
    omega arith
