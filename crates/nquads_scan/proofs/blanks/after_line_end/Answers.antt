use Rattle.std.proofs.Common.{◌∙◌, List, ℕ, length, get_or, sym, ap, arith}
use Rattle.std.proofs.lemmas.Bool.{eqb-true}
use Rattle.std.proofs.lemmas.List.{nil_from_length}
use Rattle.nquads_core.proofs.CutLaws.{after_byte}
use Rattle.nquads_scan.proofs.BlankSteps.{end_cr, end_crlf, end_lf, end_none, no_lf, too_short}
use Rattle.nquads_scan.proofs.blanks.after_line_end.Goals as goal
use Rattle.nquads_scan.proofs.blanks.after_line_end.Goals.{else-bytes-gt1-via-then-bytes-gt1+else-bytes-eq10-2, else-bytes-gt1-via-else-bytes-gt1}

pub returns-then-is_empty : goal.returns-then-is_empty
returns-then-is_empty c = end_none c.args.text.now (sym c.as_bytes-bytes.ensures.value ∙ nil_from_length c.as_bytes-bytes.result.now (eqb-true _ _ (sym c.if-is_empty.ensures)))

pub range_from-requires : goal.range_from-requires
range_from-requires c =
    λ _. after_byte c.args.text.now 0 10 c.utf8.text (sym (ap (λ (y : List ℕ). get_or y 0 0) c.as_bytes-bytes.ensures.value) ∙ c.if-bytes-eq10.true) (omega arith) (omega arith)

pub returns-then-bytes-eq10 : goal.returns-then-bytes-eq10
returns-then-bytes-eq10 c =
    end_lf c.args.text.now c.range_from.result.now (sym (ap (λ (y : List ℕ). get_or y 0 0) c.as_bytes-bytes.ensures.value) ∙ c.if-bytes-eq10.true) c.range_from.ensures.value

pub range_from-requires-then-bytes-eq10-2 : goal.range_from-requires-then-bytes-eq10-2
range_from-requires-then-bytes-eq10-2 c =
    λ _. after_byte c.args.text.now 1 10 c.utf8.text (sym (ap (λ (y : List ℕ). get_or y 1 0) c.as_bytes-bytes.ensures.value) ∙ c.if-bytes-eq10-2.true) (omega arith) (omega arith)

pub returns-then-bytes-eq10-2 : goal.returns-then-bytes-eq10-2
returns-then-bytes-eq10-2 c =
    end_crlf c.args.text.now c.range_from-then-bytes-eq10-2.result.now (sym (ap (λ (y : List ℕ). get_or y 0 0) c.as_bytes-bytes.ensures.value) ∙ c.if-bytes-ne13.false)
    (sym (ap (λ (y : List ℕ). get_or y 1 0) c.as_bytes-bytes.ensures.value) ∙ c.if-bytes-eq10-2.true) c.range_from-then-bytes-eq10-2.ensures.value

pub range_from-requires-2 : goal.range_from-requires-2
range_from-requires-2 c =
    λ _. after_byte c.args.text.now 0 13 c.utf8.text (sym (ap (λ (y : List ℕ). get_or y 0 0) c.as_bytes-bytes.ensures.value) ∙ c.if-bytes-ne13.false) (omega arith) (omega arith)

pub returns : goal.returns
returns c =
    let same = c.as_bytes-bytes.ensures.value in
    end_cr c.args.text.now c.range_from-2.result.now (sym (ap (λ (y : List ℕ). get_or y 0 0) same) ∙ c.if-bytes-ne13.false) c.range_from-2.ensures.value (elim c.else-bytes-gt1.branch [
      | else-bytes-gt1-via-then-bytes-gt1+else-bytes-eq10-2 w ↦ no_lf c.args.text.now (λ e. w.if-bytes-eq10-2.false (ap (λ (y : List ℕ). get_or y 1 0) same ∙ e))
      | else-bytes-gt1-via-else-bytes-gt1 w ↦ too_short c.args.text.now (omega (arith, w.if-bytes-gt1.false, ap length same))
    ])
