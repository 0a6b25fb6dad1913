use Rattle.std.proofs.Common.{subst, ◌∙◌}
use Rattle.cluster_parts.specs.Known.{HaveSums, IsDamageOf}
use Rattle.cluster_parts.proofs.FaultSteps.{handed_on, list_fault_first, list_fault_next}
use Rattle.cluster_parts.proofs.NumberListSteps.{list_read}
use Rattle.cluster_parts.proofs.number_lists.push_numbers.Goals as goal

pub returns-clause-appended : goal.returns-clause-appended
returns-clause-appended c =
    let sums = c.in_ok-push_sums.ensures.appended in
    (sums.0, list_read c.args.bytes.now c.in_ok-found.found.items sums.0 c.in_ok-found.ensures.read (sums.1 ∙ c.as_slice.ensures.value), sums.2, sums.3)

pub returns-in_err-found-clause-damage : goal.returns-in_err-found-clause-damage
returns-in_err-found-clause-damage c =
    handed_on c.from_residual.result c.in_err-found.field-0.0 _ c.from_residual.ensures.1
    (list_fault_first c.args.bytes.now _ c.in_err-found.ensures.damage)

pub returns-in_err-push_sums-clause-damage : goal.returns-in_err-push_sums-clause-damage
returns-in_err-push_sums-clause-damage c =
    handed_on c.from_residual-in_err-push_sums.result c.in_err-push_sums.field-0.0 _ c.from_residual-in_err-push_sums.ensures.1
    (list_fault_next c.args.bytes.now c.in_ok-found.found.items _ c.in_ok-found.ensures.fit c.in_ok-found.ensures.read
    (subst (λ l. IsDamageOf (HaveSums l) c.in_err-push_sums.field-0.0) c.as_slice.ensures.value c.in_err-push_sums.ensures.damage))
