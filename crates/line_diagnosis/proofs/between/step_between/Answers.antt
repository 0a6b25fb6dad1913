use Rattle.std.proofs.Common.{refl}
use Rattle.line_diagnosis.specs.Rest.{Accepts}
use Rattle.line_diagnosis.specs.declared.state.State.TheVariants as state
use Rattle.line_diagnosis.proofs.LabelSteps.{at_char}
use Rattle.line_diagnosis.proofs.LiveLaws.{blank_step}
use Rattle.line_diagnosis.proofs.between.step_between.Goals as goal
use Rattle.line_diagnosis.proofs.between.step_between.Goals.{then-c-eq32-via-then-c-eq32, then-c-eq32-via-else-c-eq32+then-c-eq9}

pub returns-then-c-eq32-clause-steps : goal.returns-then-c-eq32-clause-steps
returns-then-c-eq32-clause-steps c = elim c.then-c-eq32.branch [
  | then-c-eq32-via-then-c-eq32 w ↦ at_char (Accepts (state.Between c.args.next)) c.args.c 32 _ w.if-c-eq32.true (blank_step c.args.next 32 refl)
  | then-c-eq32-via-else-c-eq32+then-c-eq9 w ↦ at_char (Accepts (state.Between c.args.next)) c.args.c 9 _ w.if-c-eq9.true (blank_step c.args.next 9 refl)
]
