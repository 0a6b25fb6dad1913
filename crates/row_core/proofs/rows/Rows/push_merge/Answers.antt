use Rattle.std.proofs.Common.{rules, ◌≡◌, ◌+◌, ◌≤◌, true, false, nat_eq, length, sym, ◌∙◌, arith}
use Rattle.algebra_model.specs.Solution.{is_compatible}
use Rattle.row_core.specs.Cells.{cells_of}
use Rattle.row_core.proofs.MergeSteps.{length-merged, length-pushed, rows-merged}
use Rattle.row_core.proofs.RowSteps.{count-shown, width-shown, row-from}
use Rattle.row_core.proofs.rows.Rows.push_merge.Goals as goal

pub start_of-first-requires-clause-below : goal.start_of-first-requires-clause-below
start_of-first-requires-clause-below c =
    let l = c.left.inside in
    let n = count-shown l.width l.count (cells_of l.cells) _ c.left.view_is in
    omega arith

pub start_of-second-requires-clause-below : goal.start_of-second-requires-clause-below
start_of-second-requires-clause-below c =
    let o = c.right.inside in
    let n = count-shown o.width o.count (cells_of o.cells) _ c.right.view_is in
    omega arith

pub returns-then-not-met-clause-met : goal.returns-then-not-met-clause-met
returns-then-not-met-clause-met c =
    let r = c.self.inside in
    let l = c.left.inside in
    let o = c.right.inside in
    let wide = width-shown r.width r.count (cells_of r.cells) _ c.self.view_is in
    let first = row-from l.width l.count (cells_of l.cells) _ c.left.view_is r.width c.args.i c.start_of-first.result (c.requires.left_width ∙ sym wide) c.requires.left_inside c.start_of-first.ensures.value in
    let second = row-from o.width o.count (cells_of o.cells) _ c.right.view_is r.width c.args.j c.start_of-second.result (c.requires.right_width ∙ sym wide) c.requires.right_inside c.start_of-second.ensures.value in
    let met : c.in_ok-met.met ≡ false = search rules in
    sym met ∙ c.in_ok-met.ensures.met ∙ (λ k. is_compatible nat_eq (sym first k) (sym second k))

pub invariant_of-self-2 : goal.invariant_of-self-2
invariant_of-self-2 c =
    let r = c.self.inside in
    let l = c.left.inside in
    let o = c.right.inside in
    let wide = width-shown r.width r.count (cells_of r.cells) _ c.self.view_is in
    let lw = width-shown l.width l.count (cells_of l.cells) _ c.left.view_is in
    let ow = width-shown o.width o.count (cells_of o.cells) _ c.right.view_is in
    let left_inside : c.start_of-first.result + r.width ≤ length (cells_of l.cells) = let i = c.start_of-first.ensures.inside in omega arith in
    let right_inside : c.start_of-second.result + r.width ≤ length (cells_of o.cells) = let i = c.start_of-second.ensures.inside in omega arith in
    let met : c.in_ok-met.met ≡ true = search rules in
    length-pushed r.width r.count (cells_of r.cells) _ _
    (length-merged r.width c.start_of-first.result c.start_of-second.result (cells_of l.cells) (cells_of o.cells) left_inside right_inside)
    c.self.invariant (rw met at c.in_ok-met.ensures.merged)

pub returns-clause-merged : goal.returns-clause-merged
returns-clause-merged c =
    let r = c.self.inside in
    let l = c.left.inside in
    let o = c.right.inside in
    let wide = width-shown r.width r.count (cells_of r.cells) _ c.self.view_is in
    let lw = width-shown l.width l.count (cells_of l.cells) _ c.left.view_is in
    let ow = width-shown o.width o.count (cells_of o.cells) _ c.right.view_is in
    let left_inside : c.start_of-first.result + r.width ≤ length (cells_of l.cells) = let i = c.start_of-first.ensures.inside in omega arith in
    let right_inside : c.start_of-second.result + r.width ≤ length (cells_of o.cells) = let i = c.start_of-second.ensures.inside in omega arith in
    let first = row-from l.width l.count (cells_of l.cells) _ c.left.view_is r.width c.args.i c.start_of-first.result (c.requires.left_width ∙ sym wide) c.requires.left_inside c.start_of-first.ensures.value in
    let second = row-from o.width o.count (cells_of o.cells) _ c.right.view_is r.width c.args.j c.start_of-second.result (c.requires.right_width ∙ sym wide) c.requires.right_inside c.start_of-second.ensures.value in
    let met : c.in_ok-met.met ≡ true = search rules in
    rows-merged r.width r.count (cells_of r.cells) _ (cells_of l.cells) (cells_of o.cells) _ c.self.view_is
    c.start_of-first.result c.start_of-second.result _ _ left_inside right_inside first second
    c.self.invariant (rw met at c.in_ok-met.ensures.merged)

pub returns-clause-met : goal.returns-clause-met
returns-clause-met c =
    let r = c.self.inside in
    let l = c.left.inside in
    let o = c.right.inside in
    let wide = width-shown r.width r.count (cells_of r.cells) _ c.self.view_is in
    let first = row-from l.width l.count (cells_of l.cells) _ c.left.view_is r.width c.args.i c.start_of-first.result (c.requires.left_width ∙ sym wide) c.requires.left_inside c.start_of-first.ensures.value in
    let second = row-from o.width o.count (cells_of o.cells) _ c.right.view_is r.width c.args.j c.start_of-second.result (c.requires.right_width ∙ sym wide) c.requires.right_inside c.start_of-second.ensures.value in
    let met : c.in_ok-met.met ≡ true = search rules in
    sym met ∙ c.in_ok-met.ensures.met ∙ (λ k. is_compatible nat_eq (sym first k) (sym second k))
