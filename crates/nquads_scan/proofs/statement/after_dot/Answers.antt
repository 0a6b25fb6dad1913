use Rattle.std.proofs.Common.{List, ℕ, get_or, arith, sym, ap, ◌∙◌}
use Rattle.nquads_core.proofs.CutLaws.{after_byte}
use Rattle.nquads_scan.proofs.statement.after_dot.Goals as goal

pub range_from-requires : goal.range_from-requires
range_from-requires c =
    λ _. after_byte c.args.text.now 0 46 c.utf8.text (sym (ap (λ (y : List ℕ). get_or y 0 0) c.as_bytes-bytes.ensures.value) ∙ c.if-bytes-ne46.false) (omega arith) (omega arith)
