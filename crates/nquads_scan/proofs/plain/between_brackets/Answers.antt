use Rattle.std.proofs.Common.{List, ℕ, get_or, arith, sym, ap, ◌∙◌}
use Rattle.nquads_core.proofs.CutLaws.{after_byte}
use Rattle.nquads_scan.proofs.plain.between_brackets.Goals as goal

pub range-requires-clause-start_boundary : goal.range-requires-clause-start_boundary
range-requires-clause-start_boundary c =
    λ _. after_byte c.args.text.now 0 60 c.utf8.text (sym (ap (λ (y : List ℕ). get_or y 0 0) c.as_bytes-bytes.ensures.value) ∙ c.if-bytes-ne60.false) (omega arith) (omega arith)
