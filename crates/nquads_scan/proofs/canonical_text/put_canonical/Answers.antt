use Rattle.nquads_scan.proofs.FormSteps.{none_found}
use Rattle.nquads_scan.proofs.canonical_text.put_canonical.Goals as goal

pub returns-in_default-clause-complete : goal.returns-in_default-clause-complete
returns-in_default-clause-complete c = λ _. none_found c.args.raw.now c.in_ok-term.field-0 c.in_ok-term.ensures.complete c.in_default.is
