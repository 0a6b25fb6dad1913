use Rattle.std.proofs.Common.{Option, sym, subst}
use Rattle.std.specs.Option.{IfSome}
use Rattle.expression_values.specs.ExpressionOf.{expression_of}
use Rattle.sparql_eval.specs.Required.{AreRequired, IsKeyedBy}
use Rattle.sparql_eval.specs.declared.equalities.Equality.{Equality}
use Rattle.sparql_eval.specs.declared.equalities.Operand.{Operand}
use Rattle.sparql_eval.proofs.RequiredSteps.{required_more, required_operands}
use Rattle.sparql_eval.proofs.equalities.add_operands.Goals as goal

pub returns-in_ok-push : goal.returns-in_ok-push
returns-in_ok-push c =
    let a = expression_of c.args.left.now in
    let b = expression_of c.args.right.now in
    let x = c.in-Some.left in
    let y = c.in-Some-operand_of.right in
    let left : IsKeyedBy a x.variable = subst (λ (o : Option Operand). IfSome o (λ p. IsKeyedBy a p.variable)) c.in-Some.is c.operand_of.ensures.keyed in
    let right : IsKeyedBy b y.variable = subst (λ (o : Option Operand). IfSome o (λ p. IsKeyedBy b p.variable)) c.in-Some-operand_of.is c.operand_of-in-Some.ensures.keyed in
    let pair : Equality = record { left = x; right = y } in
    record {
      required = λ e h k.
          subst (AreRequired e) (sym c.in_ok-push.ensures.items)
          (required_more e c.args.found.now.items pair k (required_operands e a b x.variable y.variable left right h));
    }
