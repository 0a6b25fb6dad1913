use Rattle.std.proofs.Common.{subst}
use Rattle.query_plan.specs.Planned.{IsPlan}
use Rattle.part_core.proofs.composing.planned.Goals as goal

pub returns-in-Ok-plan_text-clause-output : goal.returns-in-Ok-plan_text-clause-output
returns-in-Ok-plan_text-clause-output c = record {
  plan = c.in-Ok-plan.found;
  planned = subst (λ text. IsPlan c.args.split.now text c.in-Ok-plan.found) c.in-Ok.ensures.cases.0 c.in-Ok-plan.ensures.plan;
  lines = c.in-Ok-plan_text.ensures.text;
}
