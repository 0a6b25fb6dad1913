use Rattle.std.proofs.Common.{◌<◌, ◌^◌, ℕ, List, arith, length, subst}
use Rattle.cluster_parts.specs.Known.{IsDamageOf, texts_of}
use Rattle.cluster_parts.specs.Output.{IsKept}
use Rattle.cluster_parts.proofs.FaultSteps.{handed_on, no_list, no_marks, other_marks}
use Rattle.cluster_parts.proofs.keeping.keep_terms.Goals as goal

pub returns-in_err-list-clause-fault : goal.returns-in_err-list-clause-fault
returns-in_err-list-clause-fault c =
    handed_on c.from_residual.result c.in_err-list.field-0.0 _ c.from_residual.ensures.1
    (no_list c.args.bytes.now _ c.in_err-list.ensures.fault)

pub returns-in_err-marks-clause-fault : goal.returns-in_err-marks-clause-fault
returns-in_err-marks-clause-fault c =
    let low : length c.args.bytes.now < 2 ^ 64 = omega (arith, c.length_of-len.ensures.value, c.length_of-len.type_inv) in
    handed_on c.from_residual-in_err-marks.result c.in_err-marks.field-0.0 _ c.from_residual-in_err-marks.ensures.1
    (no_marks c.args.bytes.now c.in_ok-list.list.now c.in_ok-list.rest.now _ low c.in_ok-list.ensures.parts c.in_err-marks.ensures.fault)

pub returns-in_err-text-clause-fault : goal.returns-in_err-text-clause-fault
returns-in_err-text-clause-fault c =
    let low : length c.args.bytes.now < 2 ^ 64 = omega (arith, c.length_of-len.ensures.value, c.length_of-len.type_inv) in
    handed_on c.from_residual-in_err-text.result c.in_err-text.field-0.0 _ c.from_residual-in_err-text.ensures.1
    (other_marks c.args.bytes.now c.in_ok-list.list.now c.in_ok-list.rest.now (texts_of c.in_ok-marks.marks.items) _ low c.in_ok-list.ensures.parts c.in_ok-marks.ensures.texts
    (subst (λ l. IsDamageOf ((text : List ℕ) × IsKept c.in_ok-list.list.now (texts_of l) text) c.in_err-text.field-0.0) c.as_slice.ensures.value c.in_err-text.ensures.damage))
