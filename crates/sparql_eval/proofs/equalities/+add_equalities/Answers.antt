use Rattle.std.proofs.Common.{arith, sym, ap, ◌∙◌, subst}
use Rattle.std.proofs.lemmas.Result.{on_ok_weaker}
use Rattle.expression_values.specs.ExpressionOf.{expression_of}
use Rattle.expression_values.specs.declared.expression.Expr.{Expr, size-Expr}
use Rattle.expression_values.proofs.FoldSteps.{and_deeper, and_stands_for}
use Rattle.sparql_eval.specs.Required.{Implies}
use Rattle.sparql_eval.proofs.RequiredSteps.{implies_left, implies_right}
use Rattle.sparql_eval.proofs.equalities.+add_equalities.Goals as goal

pub operands-preserved : goal.operands-preserved
operands-preserved t c =
    let is = ap expression_of c.in-And.is ∙ and_stands_for c.in-And.left c.in-And.right in
    record {
      no_deeper = rw c.deref-rest.ensures (omega (arith, c.operands.invariant.no_deeper, and_deeper c.in-And.left c.in-And.right, ap size-Expr c.in-And.is));
      rest = λ e h. subst (λ (x : Expr). Implies e (expression_of x)) (sym c.deref-rest.ensures)
          (implies_left e (expression_of c.in-And.left.value) (expression_of c.in-And.right.value) (subst (Implies e) is (c.operands.invariant.rest e h)));
      found = λ e h k. c.in_ok-add_equalities.ensures.required e
          (subst (λ (x : Expr). Implies e (expression_of x)) (sym c.deref.ensures)
          (implies_right e (expression_of c.in-And.left.value) (expression_of c.in-And.right.value) (subst (Implies e) is (c.operands.invariant.rest e h))))
          (c.operands.invariant.found e h k);
    }

pub returns : goal.returns
returns t c = record {
  required = on_ok_weaker c.add_equality.result (λ r e h k. r e (c.operands.invariant.rest e h) (c.operands.invariant.found e h k)) c.add_equality.ensures.required;
}
