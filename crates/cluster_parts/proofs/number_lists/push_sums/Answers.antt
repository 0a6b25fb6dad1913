use Rattle.std.proofs.Common.{◌∷◌, ◌++◌, [], refl, ap, sym, ◌∙◌, arith, append-nil, append_assoc}
use Rattle.std.proofs.lemmas.List.{take_all}
use Rattle.cluster_parts.specs.NumberList.{differences}
use Rattle.cluster_parts.proofs.FaultSteps.{all_sorted, handed_on, one_more_rising, one_more_sum_left, sum_fault, sums_from}
use Rattle.cluster_parts.proofs.NumberListSteps.{one_more_sum}
use Rattle.cluster_parts.proofs.number_lists.push_sums.Goals as goal

pub loop-step-init : goal.loop-step-init
loop-step-init c = ([], sym (append-nil c.args.numbers.now.items), λ rest. refl, λ rest h. h, sums_from c.args.found.now)

pub loop-step-preserved : goal.loop-step-preserved
loop-step-preserved c =
    let was = c.loop-step.invariant in
    let number = c.in_ok-number.number in (
      was.0 ++ number ∷ [],
      c.in_ok-push_one.ensures.pushed ∙ ap (λ l. l ++ number ∷ []) was.1 ∙ append_assoc c.args.numbers.now.items was.0 (number ∷ []),
      one_more_sum was.0 c.args.found.now c.loop-step.step-index c.loop-step.before number c.loop-step-test.true c.in_ok-number.ensures.next was.2,
      one_more_rising was.0 c.loop-step.before number _ c.in_ok-number.ensures.sum was.3,
      one_more_sum_left c.args.found.now c.loop-step.step-index c.loop-step.before number c.loop-step-test.true c.in_ok-number.ensures.sum was.4,
    )

pub returns-clause-appended : goal.returns-clause-appended
returns-clause-appended c =
    let was = c.loop-step.invariant in (
      was.0,
      ap (differences 0) (sym (append-nil was.0)) ∙ was.2 [] ∙ append-nil _ ∙ take_all _ c.args.found.now (omega (arith, c.loop-step-test.false)),
      was.1,
      all_sorted c.loop-step.before was.0 was.3,
    )

pub returns-in_err-number-clause-damage : goal.returns-in_err-number-clause-damage
returns-in_err-number-clause-damage c =
    handed_on c.from_residual.result c.in_err-number.field-0.0 _ c.from_residual.ensures.1
    (sum_fault c.args.found.now c.loop-step.step-index c.loop-step.before _ c.loop-step-test.true c.loop-step.invariant.4 c.in_err-number.ensures.large)
