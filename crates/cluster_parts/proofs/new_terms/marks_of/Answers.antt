use Rattle.std.proofs.Common.{◌≡◌, ◌∷◌, ◌++◌, [], ap, ◌∙◌}
use Rattle.cluster_parts.proofs.TermSteps.{all_marked, none_marked, nothing_left, one_more_mark}
use Rattle.cluster_parts.proofs.new_terms.marks_of.Goals as goal

pub loop-rest-init : goal.loop-rest-init
loop-rest-init c = none_marked c.args.known.now c.args.list.now _ c.new-made.ensures.items

pub loop-rest-preserved : goal.loop-rest-preserved
loop-rest-preserved c =
    one_more_mark c.args.known.now c.loop-rest.known c.add_line.new.known c.args.list.now c.loop-rest.rest.now c.first_line.result.0.now c.first_line.result.1.now
    c.loop-rest.made.items c.push.new.self.items c.in_ok-is_new.is_new c.loop-rest.invariant
    c.first_line.ensures.lines c.in_ok-is_new.ensures.new c.in_ok-is_new.ensures.known
    (c.in_ok-push.ensures.items ∙ ap (λ m. c.loop-rest.made.items ++ m ∷ []) c.mark_of.ensures.value)

pub returns-clause-marks : goal.returns-clause-marks
returns-clause-marks c =
    let none : c.loop-rest.rest.now ≡ [] = nothing_left _ _ c.is_empty.ensures c.loop-rest-test.false in
    (all_marked c.args.known.now c.loop-rest.known c.args.list.now c.loop-rest.rest.now c.loop-rest.made.items c.loop-rest.invariant none).0

pub returns-clause-known : goal.returns-clause-known
returns-clause-known c =
    let none : c.loop-rest.rest.now ≡ [] = nothing_left _ _ c.is_empty.ensures c.loop-rest-test.false in
    (all_marked c.args.known.now c.loop-rest.known c.args.list.now c.loop-rest.rest.now c.loop-rest.made.items c.loop-rest.invariant none).1
