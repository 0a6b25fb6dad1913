use Rattle.std.proofs.Common.{◌≡◌}
use Rattle.sparql_eval.specs.Fitting.{AreStillEvaluated}
use Rattle.sparql_eval.proofs.separated_pairs.Pairs.add_step.Given as goal

abbrev pub invariant-loop-row : goal.invariant-loop-row
invariant-loop-row l = record {
  width : l.made.width ≡ l.fn.made.width;
  evaluated : AreStillEvaluated l.self.dict.now l.self.keys.now l.fn.made l.made;
}
