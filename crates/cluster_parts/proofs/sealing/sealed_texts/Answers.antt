use Rattle.std.proofs.Common.{◌<◌, ◌^◌, arith, length}
use Rattle.cluster_parts.specs.Known.{texts_of}
use Rattle.cluster_parts.proofs.FaultSteps.{handed_on, text_fault}
use Rattle.cluster_parts.proofs.PartSteps.{shorter}
use Rattle.cluster_parts.proofs.TermSteps.{one_more_borrowed}
use Rattle.cluster_parts.proofs.sealing.sealed_texts.Goals as goal

pub loop-rest-smaller : goal.loop-rest-smaller
loop-rest-smaller c = shorter _ _ _ c.in_ok-text.ensures.parts

pub loop-rest-preserved : goal.loop-rest-preserved
loop-rest-preserved c =
    one_more_borrowed _ _ c.args.bytes.now c.loop-rest.rest.now c.in_ok-text.text.now c.in_ok-text.after.now c.loop-rest.invariant c.in_ok-text.ensures.parts c.in_ok-push_text.ensures.pushed

pub returns-in_err-text-clause-fault : goal.returns-in_err-text-clause-fault
returns-in_err-text-clause-fault c =
    let low : length c.args.bytes.now < 2 ^ 64 = omega (arith, c.length_of-len.ensures.value, c.length_of-len.type_inv) in
    handed_on c.from_residual.result c.in_err-text.field-0.0 _ c.from_residual.ensures.1
    (text_fault (texts_of c.loop-rest.texts.items) c.args.bytes.now c.loop-rest.rest.now _ _ low c.loop-rest.invariant c.is_empty.ensures c.loop-rest-test.true c.in_err-text.ensures.fault)
