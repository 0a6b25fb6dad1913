use Rattle.std.proofs.Common.{◌∙◌}
use Rattle.sparql_eval.proofs.separated_pairs.Pairs.add_step.Goals as goal

pub returns-in_err-add_at-clause-evaluated : goal.returns-in_err-add_at-clause-evaluated
returns-in_err-add_at-clause-evaluated c = λ w A h. c.add_at.ensures.evaluated w A (c.loop-row.invariant.evaluated w A h)

pub loop-row-preserved : goal.loop-row-preserved
loop-row-preserved c = record {
  width = c.add_at.ensures.width ∙ c.loop-row.invariant.width;
  evaluated = λ w A h. c.add_at.ensures.evaluated w A (c.loop-row.invariant.evaluated w A h);
}
