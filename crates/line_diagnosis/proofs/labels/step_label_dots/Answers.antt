use Rattle.std.proofs.Common.{sym}
use Rattle.line_diagnosis.specs.Rest.{Accepts}
use Rattle.line_diagnosis.specs.declared.state.State.TheVariants as state
use Rattle.line_diagnosis.proofs.LabelSteps.{at_char, dots_char, dots_dot, dots_stop}
use Rattle.line_diagnosis.proofs.labels.step_label_dots.Goals as goal

pub returns-then-c-eq46-clause-steps : goal.returns-then-c-eq46-clause-steps
returns-then-c-eq46-clause-steps c = at_char (Accepts (state.LabelDots c.args.part)) c.args.c 46 _ c.if-c-eq46.true (dots_dot c.args.part)

pub returns-then-is_label_char-clause-steps : goal.returns-then-is_label_char-clause-steps
returns-then-is_label_char-clause-steps c = dots_char c.args.part c.args.c (sym c.if-is_label_char.ensures.value)

pub returns-else-is_label_char-clause-steps : goal.returns-else-is_label_char-clause-steps
returns-else-is_label_char-clause-steps c = dots_stop c.args.part c.args.c (sym c.if-is_label_char.ensures.value) c.if-c-eq46.false
