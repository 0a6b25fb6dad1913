use Rattle.std.proofs.Common.{sym}
use Rattle.line_diagnosis.specs.Rest.{Accepts}
use Rattle.line_diagnosis.specs.declared.state.State.TheVariants as state
use Rattle.line_diagnosis.proofs.LabelSteps.{at_char}
use Rattle.line_diagnosis.proofs.TagSteps.{tag_ends, tag_hyphen, tag_step}
use Rattle.line_diagnosis.proofs.tags.step_tag.Goals as goal

pub returns-then-is_ascii_alphabetic-clause-steps : goal.returns-then-is_ascii_alphabetic-clause-steps
returns-then-is_ascii_alphabetic-clause-steps c = tag_step c.args.c (sym c.if-is_ascii_alphabetic.ensures.value)

pub returns-then-c-eq45-clause-steps : goal.returns-then-c-eq45-clause-steps
returns-then-c-eq45-clause-steps c = at_char (Accepts state.Tag) c.args.c 45 state.Hyphen c.if-c-eq45.true tag_hyphen

pub returns-else-c-eq45-clause-steps : goal.returns-else-c-eq45-clause-steps
returns-else-c-eq45-clause-steps c = tag_ends c.args.c c.step_between.result (sym c.if-is_ascii_alphabetic.ensures.value) c.if-c-eq45.false c.step_between.ensures.steps
