use Rattle.std.proofs.Common.{List, ℕ, subst}
use Rattle.nquads_scan.specs.Ends.{EndsAt}
use Rattle.nquads_scan.proofs.BlankSteps.{cut_is}
use Rattle.nquads_scan.proofs.LayoutSteps.{boundary_at}
use Rattle.nquads_scan.proofs.statement.cut_term.Goals as goal

pub range-requires-clause-end_boundary : goal.range-requires-clause-end_boundary
range-requires-clause-end_boundary c =
    boundary_at c.args.text.now c.in_ok-end.end c.utf8.text (subst (λ (y : List ℕ). EndsAt y c.in_ok-end.end) c.as_bytes.ensures.value c.in_ok-end.ensures.ends)

pub range_from-requires : goal.range_from-requires
range_from-requires c =
    λ _. boundary_at c.args.text.now c.in_ok-end.end c.utf8.text (subst (λ (y : List ℕ). EndsAt y c.in_ok-end.end) c.as_bytes.ensures.value c.in_ok-end.ensures.ends)

pub returns : goal.returns
returns c =
    cut_is c.args.text.now c.as_bytes.result.now c.in_ok-end.end c.range.result.now c.range_from.result.now c.after_blanks.result.now
    c.as_bytes.ensures.value c.utf8.text c.in_ok-end.ensures.ends c.in_ok-end.ensures.kept c.range.ensures.value c.range_from.ensures.value c.after_blanks.ensures
