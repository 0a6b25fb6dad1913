use Rattle.std.proofs.Common.{◌≤◌}
use Rattle.algebra_model.specs.Expression.{Expression}
use Rattle.expression_values.specs.ExpressionOf.{expression_of}
use Rattle.expression_values.specs.declared.expression.Expr.{size-Expr}
use Rattle.sparql_eval.specs.Required.{AreRequired, Implies}
use Rattle.sparql_eval.proofs.equalities.+add_equalities.Given as goal

abbrev pub invariant-operands : goal.invariant-operands
invariant-operands l = record {
  no_deeper : size-Expr l.rest ≤ size-Expr l.condition;
  rest : (e : Expression) → Implies e (expression_of l.condition) → Implies e (expression_of l.rest);
  found : (e : Expression) → Implies e (expression_of l.condition) → AreRequired e l.fn.found.items → AreRequired e l.found.items;
}

abbrev pub decreases-operands : goal.decreases-operands
decreases-operands l = size-Expr l.rest
