use Rattle.std.proofs.Common.{List, ℕ, get_or, arith, sym, ap, ◌∙◌}
use Rattle.nquads_core.proofs.CutLaws.{after_byte}
use Rattle.nquads_scan.proofs.PlainLaws.{tag_after}
use Rattle.nquads_scan.proofs.plain.is_plain_suffix.Goals as goal

pub range_from-requires : goal.range_from-requires
range_from-requires c =
    λ _. after_byte c.args.suffix.now 1 94 c.utf8.suffix (sym (ap (λ (y : List ℕ). get_or y 1 0) c.as_bytes-bytes.ensures.value) ∙ c.if-bytes-ne94-2.false) (omega arith) (omega arith)

pub returns-then-bytes-eq64 : goal.returns-then-bytes-eq64
returns-then-bytes-eq64 c = λ h. tag_after c.args.suffix.now c.as_bytes-bytes.result.now c.as_bytes-bytes.ensures.value c.if-bytes-eq64.true (c.is_lower_tag.ensures h)
