use Rattle.std.proofs.Common.{List, sym, subst}
use Rattle.algebra_model.specs.Expression.{holds}
use Rattle.expression_values.specs.ExpressionOf.{expression_of}
use Rattle.sparql_eval.specs.Fitting.{Requires, fits}
use Rattle.sparql_eval.specs.declared.equalities.Equality.{Equality}
use Rattle.sparql_eval.proofs.FittingSteps.{requires_some}
use Rattle.sparql_eval.proofs.joins.left_joined.Goals as goal

pub left_joined_by_keys-requires-clause-required : goal.left_joined_by_keys-requires-clause-required
left_joined_by_keys-requires-clause-required g c κs within =
    let e = expression_of c.args.condition.now in
    let keys = c.in_ok-keys.keys.items in
    subst (λ (l : List Equality). Requires (holds e) l) (sym c.as_slice-keys.ensures.value)
    (requires_some e c.in_ok-pairs.pairs.items keys c.in_ok-pairs.ensures.required
    (subst (λ (l : List Equality). Requires (fits l) keys) c.as_slice.ensures.value c.in_ok-keys.ensures.required))
