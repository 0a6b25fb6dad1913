use Rattle.std.proofs.Common.{◌≡◌, sym, ap, ◌∙◌, subst}
use Rattle.std.specs.Option.{IfSome}
use Rattle.algebra_model.specs.Call.{str}
use Rattle.algebra_model.specs.Expression.{Expression, call}
use Rattle.expression_values.specs.ExpressionOf.{expression_of, function_of}
use Rattle.sparql_eval.specs.Required.{IsKeyedBy}
use Rattle.sparql_eval.proofs.RequiredSteps.{call_denotes, keyed_variable, variable_denotes}
use Rattle.sparql_eval.proofs.equalities.operand_of.Goals as goal

pub returns-in-Variable : goal.returns-in-Variable
returns-in-Variable c =
    let x = c.in-Variable.variable in
    record { keyed = subst (λ (a : Expression). IsKeyedBy a x) (sym (ap expression_of c.in-Variable.is ∙ variable_denotes x)) (keyed_variable x) }

pub returns-in-Str : goal.returns-in-Str
returns-in-Str c =
    let it = c.in-Call in
    let is : expression_of c.args.expr.now ≡ call str (expression_of c.deref.result.now) =
    ap expression_of it.is ∙ call_denotes it.function it.argument ∙ (λ i. call (function_of (c.in-Str.is i)) (expression_of ((sym c.deref.ensures) i))) in
    record { keyed = subst (λ (a : Expression). IfSome c.text_operand.result (λ o. IsKeyedBy a o.variable)) (sym is) c.text_operand.ensures.keyed }
