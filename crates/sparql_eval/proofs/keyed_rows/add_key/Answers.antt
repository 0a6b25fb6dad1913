use Rattle.std.proofs.Common.{sym, subst}
use Rattle.sparql_eval.specs.Fitting.{Requires}
use Rattle.sparql_eval.proofs.FittingSteps.{requires_more}
use Rattle.sparql_eval.proofs.keyed_rows.add_key.Goals as goal

pub returns-in_ok-push : goal.returns-in_ok-push
returns-in_ok-push c = record {
  required = λ test r k. subst (Requires test) (sym c.in_ok-push.ensures.items) (requires_more test c.args.keys.now.items c.args.key k r);
}
