use Rattle.std.proofs.Common.{◌∙◌, sym}
use Rattle.result_merge.proofs.StringSteps.{all_read, byte_more}
use Rattle.result_merge.proofs.strings.decoded.Goals as goal

pub reading-preserved : goal.reading-preserved
reading-preserved c =
    byte_more c.args.bytes.now c.reading.text.items c.push_byte.new.text.items c.reading.rest.now c.first_byte-byte.result.1.now c.first_byte-byte.result.0 c.reading.invariant
    (λ e. c.reading-test.true (c.byte_at.ensures.value ∙ e)) c.first_byte-byte.ensures.byte c.in_ok-push_byte.ensures.pushed

pub returns-clause-text : goal.returns-clause-text
returns-clause-text c = all_read c.args.bytes.now c.reading.text.items c.reading.rest.now c.reading.invariant (sym c.byte_at.ensures.value ∙ c.reading-test.false)
