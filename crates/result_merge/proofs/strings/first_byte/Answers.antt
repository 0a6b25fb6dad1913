use Rattle.std.proofs.Common.{◌==◌, ◌∙◌, true, false, ap, eq-eqb, get_or, ne_eqb, refl, sym}
use Rattle.result_merge.specs.Escapes.{low_byte, short_escape}
use Rattle.result_merge.proofs.StringLaws.{first_read}
use Rattle.result_merge.proofs.strings.first_byte.Goals as goal

pub returns-then-byte_at-ne92-clause-byte : goal.returns-then-byte_at-ne92-clause-byte
returns-then-byte_at-ne92-clause-byte c = λ x rest e.
    first_read c.args.bytes.now rest c.skipped.result.now x c.byte_at-then-byte_at-ne92.result false (get_or c.args.bytes.now 1 0 == 117) e
    (ne_eqb (get_or c.args.bytes.now 0 0) 92 (λ q. c.if-byte_at-ne92.true (c.byte_at.ensures.value ∙ q))) refl
    (λ i. (c.byte_at-then-byte_at-ne92.ensures.value i, c.skipped.ensures.value i))

pub returns-then-byte_at-ne117-clause-byte : goal.returns-then-byte_at-ne117-clause-byte
returns-then-byte_at-ne117-clause-byte c = λ x rest e.
    first_read c.args.bytes.now rest c.skipped-then-byte_at-ne117.result.now x c.short_escape.result true false e
    (eq-eqb (get_or c.args.bytes.now 0 0) 92 (sym c.byte_at.ensures.value ∙ c.if-byte_at-ne92.false))
    (ne_eqb (get_or c.args.bytes.now 1 0) 117 (λ q. c.if-byte_at-ne117.true (c.byte_at-else-byte_at-ne92.ensures.value ∙ q)))
    (λ i. ((c.short_escape.ensures.value ∙ ap short_escape c.byte_at-then-byte_at-ne117.ensures.value) i, c.skipped-then-byte_at-ne117.ensures.value i))

pub returns-else-byte_at-ne117-clause-byte : goal.returns-else-byte_at-ne117-clause-byte
returns-else-byte_at-ne117-clause-byte c = λ x rest e.
    first_read c.args.bytes.now rest c.skipped-else-byte_at-ne117.result.now x c.low_byte.result true true e
    (eq-eqb (get_or c.args.bytes.now 0 0) 92 (sym c.byte_at.ensures.value ∙ c.if-byte_at-ne92.false))
    (eq-eqb (get_or c.args.bytes.now 1 0) 117 (sym c.byte_at-else-byte_at-ne92.ensures.value ∙ c.if-byte_at-ne117.false))
    (λ i. ((c.low_byte.ensures.value ∙ (λ j. low_byte (c.byte_at-else-byte_at-ne117.ensures.value j) (c.byte_at-else-byte_at-ne117-2.ensures.value j))) i, c.skipped-else-byte_at-ne117.ensures.value i))
