use Rattle.std.proofs.Common.{◌≡◌, Some, None, refl, sym, subst, inl, inr}
use Rattle.line_diagnosis.specs.Rest.{Accepts}
use Rattle.line_diagnosis.specs.Turn.{part, after_dot}
use Rattle.line_diagnosis.specs.declared.reason.Next.{Next}
use Rattle.line_diagnosis.specs.declared.reason.Next.TheVariants as next
use Rattle.line_diagnosis.specs.declared.state.State.TheVariants as state
use Rattle.line_diagnosis.proofs.LabelSteps.{at_char, dot_char, dot_dot, dot_ends, dot_stops}
use Rattle.line_diagnosis.proofs.OpenLaws.{dot_none}
use Rattle.line_diagnosis.proofs.labels.step_label_dot.Goals as goal
use Rattle.line_diagnosis.proofs.labels.step_label_dot.Goals.{in-Graph, in_default}

pub returns-then-is_label_char-clause-steps : goal.returns-then-is_label_char-clause-steps
returns-then-is_label_char-clause-steps c = dot_char c.args.part c.args.c (sym c.if-is_label_char.ensures.value)

pub returns-then-c-eq46-clause-steps : goal.returns-then-c-eq46-clause-steps
returns-then-c-eq46-clause-steps c = at_char (Accepts (state.LabelDot c.args.part)) c.args.c 46 _ c.if-c-eq46.true (dot_dot c.args.part)

pub returns-then-matches-clause-steps : goal.returns-then-matches-clause-steps
returns-then-matches-clause-steps c = elim c.match-matches.branch [
  | in-Graph w ↦
      let e : after_dot (part c.after.result) ≡ Some (part next.End) = elim w.in-Graph.is [ inl k ↦ rw k refl | inr k ↦ rw k refl ] in
      dot_ends c.args.part c.args.c c.step_between.result (sym c.if-is_label_char.ensures.value) c.if-c-eq46.false
      (subst (λ (n : Next). after_dot (part n) ≡ Some (part next.End)) c.after.ensures e) c.step_between.ensures.steps
  | in_default w ↦ absurd cc
]

pub returns-else-matches-clause-steps : goal.returns-else-matches-clause-steps
returns-else-matches-clause-steps c = elim c.match-matches.branch [
  | in-Graph w ↦ absurd cc
  | in_default w ↦
      dot_stops c.args.part c.args.c (sym c.if-is_label_char.ensures.value) c.if-c-eq46.false
      (subst (λ (n : Next). after_dot (part n) ≡ None) c.after.ensures (dot_none c.after.result w.in_default.not-Graph w.in_default.not-Dot))
]
