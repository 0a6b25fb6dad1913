use Rattle.std.proofs.Common.{◌<◌, ◌^◌, sym, subst}
use Rattle.std.specs.List.{All}
use Rattle.std.proofs.lemmas.List.Elements.{All-push}
use Rattle.cluster_parts.proofs.FaultSteps.{handed_on, number_fault, one_more_read}
use Rattle.cluster_parts.proofs.number_lists.read_in_bytes.Goals as goal

pub loop-rest-preserved : goal.loop-rest-preserved
loop-rest-preserved c =
    let was = c.loop-rest.invariant in (
      one_more_read c.args.count c.loop-rest.numbers.items c.push_one.new.numbers.items c.args.bytes.now c.loop-rest.rest.now c.in_ok-number.after.now c.in_ok-number.number was.0
          c.in_ok-number.ensures.parts c.in_ok-push_one.ensures.pushed,
      subst (All (λ n. n < 256 ^ c.args.count)) (sym c.in_ok-push_one.ensures.pushed)
          (All-push (λ n. n < 256 ^ c.args.count) c.loop-rest.numbers.items c.in_ok-number.number was.1 c.in_ok-number.ensures.fits),
    )

pub returns-in_err-number-clause-damage : goal.returns-in_err-number-clause-damage
returns-in_err-number-clause-damage c =
    handed_on c.from_residual.result c.in_err-number.field-0.0 _ c.from_residual.ensures.1
    (number_fault c.args.count c.loop-rest.numbers.items c.args.bytes.now c.loop-rest.rest.now _ _ c.loop-rest.invariant.0 c.is_empty.ensures c.loop-rest-test.true c.in_err-number.ensures.short)
