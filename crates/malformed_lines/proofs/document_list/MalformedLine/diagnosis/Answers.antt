use Rattle.std.proofs.Common.{ℕ, List, arith, inl, inr, rules, subst}
use Rattle.line_diagnosis.specs.Explained.{IsExplained}
use Rattle.malformed_lines.proofs.FirstBytes.{place_kept}
use Rattle.malformed_lines.proofs.document_list.MalformedLine.diagnosis.Goals as goal
use Rattle.malformed_lines.proofs.document_list.MalformedLine.diagnosis.Goals.{else-not-self-via-then-not-self+else-len-diagnosis, else-not-self-via-else-not-self}

pub returns-clause-explained : goal.returns-clause-explained
returns-clause-explained c = subst (λ (bytes : List ℕ). IsExplained bytes c.in_ok-diagnosis.diagnosis) c.deref.ensures.value c.in_ok-diagnosis.ensures.explained

pub returns-clause-place : goal.returns-clause-place
returns-clause-place c = λ line k.
    let x = c.in_ok-diagnosis.ensures.explained in
    place_kept line c.deref.result.now c.args.self.now c.in_ok-diagnosis.diagnosis.offset k c.deref.ensures.value x.place
    (elim c.else-not-self.branch [
      | else-not-self-via-then-not-self+else-len-diagnosis w ↦ inr (omega (arith, w.if-len-diagnosis.false, w.len.ensures, c.deref.ensures.len))
      | else-not-self-via-else-not-self w ↦ inl (search (rules, w.if-not-self.false))
    ])
