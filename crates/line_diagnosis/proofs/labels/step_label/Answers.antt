use Rattle.std.proofs.Common.{sym, subst}
use Rattle.line_diagnosis.specs.Rest.{Accepts, Steps}
use Rattle.line_diagnosis.specs.declared.reason.Next.{Next}
use Rattle.line_diagnosis.specs.declared.state.State.TheVariants as state
use Rattle.line_diagnosis.proofs.LabelSteps.{at_char, label_dot, label_ends, label_goes}
use Rattle.line_diagnosis.proofs.labels.step_label.Goals as goal

pub returns-then-is_label_char-clause-steps : goal.returns-then-is_label_char-clause-steps
returns-then-is_label_char-clause-steps c = label_goes c.args.part c.args.c (sym c.if-is_label_char.ensures.value)

pub returns-then-c-eq46-clause-steps : goal.returns-then-c-eq46-clause-steps
returns-then-c-eq46-clause-steps c = at_char (Accepts (state.Label c.args.part)) c.args.c 46 _ c.if-c-eq46.true (label_dot c.args.part)

pub returns-else-c-eq46-clause-steps : goal.returns-else-c-eq46-clause-steps
returns-else-c-eq46-clause-steps c =
    label_ends c.args.part c.args.c c.step_between.result (sym c.if-is_label_char.ensures.value) c.if-c-eq46.false
    (subst (λ (n : Next). Steps (Accepts (state.Between n)) c.args.c c.step_between.result) c.after.ensures c.step_between.ensures.steps)
