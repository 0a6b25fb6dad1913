use Rattle.std.proofs.Common.{◌≡◌, ◌<◌, ◌^◌, ◌∷◌, ◌++◌, [], arith, length}
use Rattle.std.specs.List.{flat_map}
use Rattle.nquads_core.specs.Lines.{lines}
use Rattle.cluster_parts.proofs.FaultSteps.{handed_on, text_fault}
use Rattle.cluster_parts.proofs.PartSteps.{shorter}
use Rattle.cluster_parts.proofs.TermSteps.{all_texts, no_text, nothing_left, one_more_text_known}
use Rattle.cluster_parts.proofs.counting.count_lines.Goals as goal

pub loop-rest-init : goal.loop-rest-init
loop-rest-init c = ([], no_text c.args.bytes.now c.with_hasher-known.result c.with_hasher-known.ensures.empty)

pub loop-rest-smaller : goal.loop-rest-smaller
loop-rest-smaller c = shorter _ _ _ c.in_ok-text.ensures.parts

pub loop-rest-preserved : goal.loop-rest-preserved
loop-rest-preserved c =
    let was = c.loop-rest.invariant in (
      was.0 ++ c.in_ok-text.text.now ∷ [],
      one_more_text_known c.args.bytes.now was.0 c.loop-rest.rest.now c.in_ok-text.text.now c.in_ok-text.after.now c.loop-rest.known c.add_lines.new.known was.1
          c.in_ok-text.ensures.parts c.in_ok-add_lines.ensures.known,
    )

pub returns-in_err-text-clause-fault : goal.returns-in_err-text-clause-fault
returns-in_err-text-clause-fault c =
    let was = c.loop-rest.invariant in
    let low : length c.args.bytes.now < 2 ^ 64 = omega (arith, c.length_of-len.ensures.value, c.length_of-len.type_inv) in
    handed_on c.from_residual.result c.in_err-text.field-0.0 _ c.from_residual.ensures.1
    (text_fault was.0 c.args.bytes.now c.loop-rest.rest.now _ _ low was.1.unsealed c.is_empty.ensures c.loop-rest-test.true c.in_err-text.ensures.fault)

pub returns-clause-count : goal.returns-clause-count
returns-clause-count c =
    let was = c.loop-rest.invariant in
    let none : c.loop-rest.rest.now ≡ [] = nothing_left _ _ c.is_empty.ensures c.loop-rest-test.false in
    (was.0, all_texts c.args.bytes.now was.0 c.loop-rest.rest.now was.1.unsealed none, c.count_known.ensures.count (flat_map lines was.0) was.1.all_known)
