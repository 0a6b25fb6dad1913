use Rattle.std.proofs.Common.{◌<◌, ◌^◌, [], ◌∷◌, ◌++◌, arith, length}
use Rattle.cluster_parts.proofs.FaultSteps.{handed_on, text_fault}
use Rattle.cluster_parts.proofs.PartSteps.{one_more_text, shorter}
use Rattle.cluster_parts.proofs.sealing.join_sealed.Goals as goal

pub loop-rest-smaller : goal.loop-rest-smaller
loop-rest-smaller c = shorter _ _ _ c.in_ok-text.ensures.parts

pub loop-rest-preserved : goal.loop-rest-preserved
loop-rest-preserved c =
    let was = c.loop-rest.invariant in
    let more = one_more_text was.0 c.args.bytes.now c.loop-rest.rest.now c.in_ok-text.text.now c.in_ok-text.after.now _ _ was.1 c.in_ok-text.ensures.parts was.2 c.in_ok-extend_from_slice.ensures.items in
    (was.0 ++ c.in_ok-text.text.now ∷ [], more.0, more.1)

pub returns-in_err-text-clause-fault : goal.returns-in_err-text-clause-fault
returns-in_err-text-clause-fault c =
    let was = c.loop-rest.invariant in
    let low : length c.args.bytes.now < 2 ^ 64 = omega (arith, c.length_of-len.ensures.value, c.length_of-len.type_inv) in
    handed_on c.from_residual.result c.in_err-text.field-0.0 _ c.from_residual.ensures.1
    (text_fault was.0 c.args.bytes.now c.loop-rest.rest.now _ _ low was.1 c.is_empty.ensures c.loop-rest-test.true c.in_err-text.ensures.fault)
