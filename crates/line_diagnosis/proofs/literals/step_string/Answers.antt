use Rattle.std.proofs.Common.{rules}
use Rattle.line_diagnosis.specs.Rest.{Accepts}
use Rattle.line_diagnosis.specs.declared.state.State.TheVariants as state
use Rattle.line_diagnosis.proofs.LabelSteps.{at_char}
use Rattle.line_diagnosis.proofs.StringSteps.{string_backslash, string_breaks, string_closes, string_goes}
use Rattle.line_diagnosis.proofs.literals.step_string.Goals as goal

pub returns-in-34-clause-steps : goal.returns-in-34-clause-steps
returns-in-34-clause-steps c = at_char (Accepts state.String) c.args.c 34 state.AfterString c.in-34.is string_closes

pub returns-in-92-clause-steps : goal.returns-in-92-clause-steps
returns-in-92-clause-steps c = at_char (Accepts state.String) c.args.c 92 state.StringBackslash c.in-92.is string_backslash

pub returns-in-10-clause-steps : goal.returns-in-10-clause-steps
returns-in-10-clause-steps c = string_breaks c.args.c c.in-10.is

pub returns-in_default-clause-steps : goal.returns-in_default-clause-steps
returns-in_default-clause-steps c = string_goes c.args.c (search rules) (search rules) (search rules) (search rules)
