use Rattle.std.proofs.Common.{◌∙◌, sym}
use Rattle.line_diagnosis.proofs.StringSteps.{string_letter, string_no_letter, string_short}
use Rattle.line_diagnosis.proofs.literals.step_string_backslash.Goals as goal

pub returns-in-Some-clause-steps : goal.returns-in-Some-clause-steps
returns-in-Some-clause-steps c = string_short c.args.c c.in-Some.field-0 (sym c.echar.ensures.value ∙ c.in-Some.is)

pub returns-in-Some-digits_after-clause-steps : goal.returns-in-Some-digits_after-clause-steps
returns-in-Some-digits_after-clause-steps c =
    string_letter c.args.c c.in-Some-digits_after.digits (sym c.echar.ensures.value ∙ c.in_default.is) c.in-Some-digits_after.ensures

pub returns-in-None-clause-steps : goal.returns-in-None-clause-steps
returns-in-None-clause-steps c = string_no_letter c.args.c (sym c.echar.ensures.value ∙ c.in_default.is) c.in-None.ensures.0 c.in-None.ensures.1
