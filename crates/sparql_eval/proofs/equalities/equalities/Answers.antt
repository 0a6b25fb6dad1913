use Rattle.std.proofs.Common.{sym, subst}
use Rattle.expression_values.specs.ExpressionOf.{expression_of}
use Rattle.sparql_eval.specs.Required.{AreRequired}
use Rattle.sparql_eval.proofs.equalities.equalities.Goals as goal

pub returns : goal.returns
returns c =
    let e = expression_of c.args.condition.now in
    record { required = c.in_ok-add_equalities.ensures.required e (λ ρ h. h) (subst (AreRequired e) (sym c.new-found.ensures.items) record {}) }
