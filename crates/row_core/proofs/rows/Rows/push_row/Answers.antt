use Rattle.std.proofs.Common.{◌≡◌, ◌+◌, ◌≤◌, ℕ, List, Option, ◌∷◌, [], ◌++◌, length, get_or, take, drop, sym, ap, ◌∙◌, arith}
use Rattle.row_core.specs.Cells.{cells_of}
use Rattle.row_core.proofs.RestrictSteps.{length-part}
use Rattle.row_core.proofs.RowSteps.{count-shown, width-shown, row-from, rows-pushed}
use Rattle.row_core.proofs.rows.Rows.push_row.Goals as goal

pub start_of-start-requires-clause-below : goal.start_of-start-requires-clause-below
start_of-start-requires-clause-below c =
    let o = c.others.inside in
    let n = count-shown o.width o.count (cells_of o.cells) _ c.others.view_is in
    omega arith

pub returns-clause-added : goal.returns-clause-added
returns-clause-added c =
    let r = c.self.inside in
    let o = c.others.inside in
    let a = c.start_of-start.result in
    let copied = take r.width (drop a (cells_of o.cells)) in
    let wide = width-shown r.width r.count (cells_of r.cells) _ c.self.view_is in
    let same = width-shown o.width o.count (cells_of o.cells) _ c.others.view_is in
    let inside : a + r.width ≤ length (cells_of o.cells) = let i = c.start_of-start.ensures.inside in omega arith in
    let long : length copied ≡ c.args.self.now.width = length-part a r.width (cells_of o.cells) inside ∙ wide in
    let row : get_or c.args.others.now.rows c.args.i [] ≡ copied =
    row-from o.width o.count (cells_of o.cells) _ c.others.view_is r.width c.args.i a (omega arith) c.requires.inside c.start_of-start.ensures.value in
    rows-pushed r.width r.count (cells_of r.cells) _ c.self.view_is copied (cells_of c.add_part.new.cells)
    long c.self.invariant c.in_ok-add_part.ensures.added
    ∙ ap (λ (x : List (Option ℕ)). c.args.self.now.rows ++ x ∷ []) (sym row)
