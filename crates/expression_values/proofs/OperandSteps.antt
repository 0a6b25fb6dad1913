-- An operand of `||` or `&&` moves from the rest of a chain to the result.
use Rattle.std.proofs.Common.{◌≡◌, Bool, Option, sym, ◌∙◌, ap, Box, Global}
use Rattle.rdf_core.specs.declared.term.Term.{Term}
use Rattle.algebra_model.specs.Solution.{Solution}
use Rattle.algebra_model.specs.BooleanValue.{logical_and, logical_or}
use Rattle.algebra_model.specs.Expression.{truth_of, val}
use Rattle.expression_values.specs.ExpressionOf.{expression_of}
use Rattle.expression_values.specs.declared.expression.Expr.{Expr}
use Rattle.expression_values.specs.declared.expression.Expr.TheViews as views
use Rattle.expression_values.proofs.FoldSteps.{and_stands_for, or_stands_for}
use Rattle.expression_values.proofs.LogicSteps.{and_assoc, or_assoc, truth_of_result}

abbrev pub truth : Expr → Solution Term → Option Bool
truth expr μ = truth_of (val (expression_of expr) μ)

pub or_moves : (left right : Box Expr Global) (found : Option Bool) (μ : Solution Term)
    → logical_or (truth left.value μ) (logical_or (truth right.value μ) found) ≡ logical_or (truth (views.Or left right) μ) found
or_moves left right found μ =
    sym (or_assoc (truth left.value μ) (truth right.value μ) found)
    ∙ ap (λ t. logical_or t found) (sym (truth_of_result (logical_or (truth left.value μ) (truth right.value μ)))
    ∙ ap (λ e. truth_of (val e μ)) (sym (or_stands_for left right)))

pub and_moves : (left right : Box Expr Global) (found : Option Bool) (μ : Solution Term)
    → logical_and (truth left.value μ) (logical_and (truth right.value μ) found) ≡ logical_and (truth (views.And left right) μ) found
and_moves left right found μ =
    sym (and_assoc (truth left.value μ) (truth right.value μ) found)
    ∙ ap (λ t. logical_and t found) (sym (truth_of_result (logical_and (truth left.value μ) (truth right.value μ)))
    ∙ ap (λ e. truth_of (val e μ)) (sym (and_stands_for left right)))
