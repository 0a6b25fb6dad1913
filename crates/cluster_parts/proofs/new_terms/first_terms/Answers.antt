use Rattle.std.proofs.Common.{◌<◌, ◌^◌, ◌++◌, ap, ◌∙◌, arith, length}
use Rattle.cluster_parts.specs.Seal.{sealed}
use Rattle.cluster_parts.proofs.FaultSteps.{handed_on, text_fault}
use Rattle.cluster_parts.proofs.PartSteps.{shorter}
use Rattle.cluster_parts.proofs.TermSteps.{one_more_listed}
use Rattle.cluster_parts.proofs.new_terms.first_terms.Goals as goal

pub loop-rest-smaller : goal.loop-rest-smaller
loop-rest-smaller c = shorter _ _ _ c.in_ok-list.ensures.parts

pub loop-rest-preserved : goal.loop-rest-preserved
loop-rest-preserved c =
    one_more_listed c.args.bytes.now c.loop-rest.rest.now c.in_ok-list.list.now c.in_ok-list.after.now _ _ _ _ _ c.loop-rest.invariant
    c.in_ok-list.ensures.parts c.in_ok-made.ensures.marks c.in_ok-made.ensures.known
    (c.in_ok-push_sealed.ensures.appended ∙ ap (λ l. c.loop-rest.out.items ++ sealed l) c.as_slice.ensures.value)

pub returns-in_err-list-clause-fault : goal.returns-in_err-list-clause-fault
returns-in_err-list-clause-fault c =
    let was = c.loop-rest.invariant in
    let low : length c.args.bytes.now < 2 ^ 64 = omega (arith, c.length_of-len.ensures.value, c.length_of-len.type_inv) in
    handed_on c.from_residual.result c.in_err-list.field-0.0 _ c.from_residual.ensures.1
    (text_fault was.texts c.args.bytes.now c.loop-rest.rest.now _ _ low was.texts_read.unsealed c.is_empty.ensures c.loop-rest-test.true c.in_err-list.ensures.fault)
