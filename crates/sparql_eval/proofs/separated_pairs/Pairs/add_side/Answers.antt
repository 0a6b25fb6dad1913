use Rattle.std.proofs.Common.{◌∙◌}
use Rattle.sparql_eval.proofs.separated_pairs.Pairs.add_side.Goals as goal

pub returns-in_err-add_step-clause-evaluated : goal.returns-in_err-add_step-clause-evaluated
returns-in_err-add_step-clause-evaluated c = λ w A h. c.add_step.ensures.evaluated w A (c.loop-step.invariant.evaluated w A h)

pub returns-then-not-branch-clause-evaluated : goal.returns-then-not-branch-clause-evaluated
returns-then-not-branch-clause-evaluated c = λ w A h. c.add_step.ensures.evaluated w A (c.loop-step.invariant.evaluated w A h)

pub loop-step-preserved : goal.loop-step-preserved
loop-step-preserved c = record {
  width = c.add_step.ensures.width ∙ c.loop-step.invariant.width;
  evaluated = λ w A h. c.add_step.ensures.evaluated w A (c.loop-step.invariant.evaluated w A h);
}
