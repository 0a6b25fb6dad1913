use Rattle.std.proofs.Common.{rules, ◌≡◌, ◌<◌, ℕ, List, [], length, get_or, ap, sym, ◌∙◌}
use Rattle.cluster_parts.specs.Known.{texts_of}
use Rattle.cluster_parts.specs.Output.{IsKept}
use Rattle.cluster_parts.proofs.FaultSteps.{damaged, handed_on}
use Rattle.cluster_parts.proofs.TermSteps.{all_kept, mark_left, no_mark, nothing_left, one_more_kept}
use Rattle.cluster_parts.proofs.keeping.kept_of.Goals as goal

pub loop-rest-preserved : goal.loop-rest-preserved
loop-rest-preserved c = (
  c.take_mark.ensures.all,
  one_more_kept c.args.list.now c.loop-rest.rest.now c.first_line.result.0.now c.first_line.result.1.now c.args.marks.now
      c.loop-rest.taken.items c.take_mark.new.taken.items c.loop-rest.out.items c.push_if_new.new.out.items c.in_ok-is_new.is_new c.loop-rest.invariant.1
      c.first_line.ensures.lines c.in_ok-is_new.ensures.mark c.in_ok-is_new.ensures.taken c.in_ok-push_if_new.ensures.appended,
)

pub returns-in_err-is_new-clause-damage : goal.returns-in_err-is_new-clause-damage
returns-in_err-is_new-clause-damage c =
    handed_on c.from_residual-in_err-is_new.result c.in_err-is_new.field-0.0 _ c.from_residual-in_err-is_new.ensures.1
    (damaged ((text : List ℕ) × IsKept c.args.list.now (texts_of c.args.marks.now) text) _ c.in_err-is_new.ensures.left.0
    (λ w. no_mark c.args.list.now c.loop-rest.rest.now c.first_line.result.0.now c.first_line.result.1.now c.args.marks.now c.loop-rest.taken.items c.loop-rest.out.items w.0
    c.loop-rest.invariant.1 c.first_line.ensures.lines c.in_err-is_new.ensures.left.1 w.1))

pub returns-then-not-are_taken-clause-damage : goal.returns-then-not-are_taken-clause-damage
returns-then-not-are_taken-clause-damage c = λ w.
    let none : c.loop-rest.rest.now ≡ [] = nothing_left _ _ c.is_empty-in-loop-rest.ensures c.loop-rest-test.false in
    mark_left c.args.list.now c.loop-rest.rest.now c.args.marks.now c.loop-rest.taken.items c.loop-rest.out.items w.0 c.loop-rest.invariant.1 none
    (λ h. c.are_taken.ensures.left c.if-not-are_taken.true (λ n low. h n low ∙ ap (λ l. get_or l n 0) (sym c.as_slice.ensures.value))) w.1

pub returns-clause-kept : goal.returns-clause-kept
returns-clause-kept c =
    let none : c.loop-rest.rest.now ≡ [] = nothing_left _ _ c.is_empty-in-loop-rest.ensures c.loop-rest-test.false in
    let some : 0 < length c.args.marks.now = search rules in
    all_kept c.args.list.now c.loop-rest.rest.now c.args.marks.now c.loop-rest.taken.items c.loop-rest.out.items c.loop-rest.invariant.1 none some
    (λ n low. c.are_taken.ensures.each c.if-not-are_taken.false n low ∙ ap (λ l. get_or l n 0) c.as_slice.ensures.value)
