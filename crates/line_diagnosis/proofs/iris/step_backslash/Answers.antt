use Rattle.line_diagnosis.proofs.IriSteps.{iri_letter, iri_no_letter}
use Rattle.line_diagnosis.proofs.iris.step_backslash.Goals as goal

pub returns-in-Some-clause-steps : goal.returns-in-Some-clause-steps
returns-in-Some-clause-steps c = iri_letter c.args.part c.args.scheme c.args.c c.in-Some.digits c.in-Some.ensures

pub returns-in-None-clause-steps : goal.returns-in-None-clause-steps
returns-in-None-clause-steps c = iri_no_letter c.args.part c.args.scheme c.args.c c.in-None.ensures.0 c.in-None.ensures.1
