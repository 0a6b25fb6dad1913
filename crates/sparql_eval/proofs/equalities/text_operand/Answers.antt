use Rattle.std.proofs.Common.{sym, ap, ◌∙◌, subst}
use Rattle.algebra_model.specs.Call.{str}
use Rattle.algebra_model.specs.Expression.{Expression, call}
use Rattle.expression_values.specs.ExpressionOf.{expression_of}
use Rattle.sparql_eval.specs.Required.{IsKeyedBy}
use Rattle.sparql_eval.proofs.RequiredSteps.{keyed_text, variable_denotes}
use Rattle.sparql_eval.proofs.equalities.text_operand.Goals as goal

pub returns-in-Variable : goal.returns-in-Variable
returns-in-Variable c =
    let x = c.in-Variable.variable in
    record { keyed = subst (λ (a : Expression). IsKeyedBy (call str a) x) (sym (ap expression_of c.in-Variable.is ∙ variable_denotes x)) (keyed_text x) }
