use Rattle.std.proofs.Common.{List, ℕ, get_or, arith, sym, ap, ◌∙◌}
use Rattle.nquads_core.proofs.CutLaws.{after_byte}
use Rattle.nquads_scan.proofs.plain.after_label_sign.Goals as goal

pub range_from-requires : goal.range_from-requires
range_from-requires c =
    λ _. after_byte c.args.text.now 1 58 c.utf8.text (sym (ap (λ (y : List ℕ). get_or y 1 0) c.as_bytes-bytes.ensures.value) ∙ c.if-bytes-ne58.false) (omega arith) (omega arith)
