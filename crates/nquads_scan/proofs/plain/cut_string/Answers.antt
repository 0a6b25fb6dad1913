use Rattle.std.proofs.Common.{List, ℕ, get_or, arith, sym, ap, ◌∙◌}
use Rattle.nquads_core.proofs.CutLaws.{after_byte}
use Rattle.nquads_scan.proofs.StringLaws.{plain_string_at}
use Rattle.nquads_scan.proofs.plain.cut_string.Goals as goal

pub range-requires-clause-start_boundary : goal.range-requires-clause-start_boundary
range-requires-clause-start_boundary c =
    λ _. after_byte c.args.text.now 0 34 c.utf8.text (sym (ap (λ (y : List ℕ). get_or y 0 0) c.as_bytes-bytes.ensures.value) ∙ c.if-bytes-ne34.false) (omega arith) (omega arith)

pub range_from-requires : goal.range_from-requires
range_from-requires c =
    λ _. after_byte c.args.text.now c.search-end.result 34 c.utf8.text
    (sym (ap (λ (y : List ℕ). get_or y c.search-end.result 0) c.as_bytes-bytes.ensures.value) ∙ c.if-bytes-end-ne34.false) (omega arith) (omega arith)

pub returns : goal.returns
returns c =
    plain_string_at c.args.text.now c.as_bytes-bytes.result.now c.range.result.now c.range_from.result.now c.search-end.result c.as_bytes-bytes.ensures.value (omega arith) (omega arith) c.if-bytes-ne34.false c.if-bytes-end-ne34.false c.search-end.ensures.passed c.range.ensures.value c.range_from.ensures.value c.range.utf8
