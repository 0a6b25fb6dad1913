-- The value of an expression from the values of its sides.
use Rattle.std.proofs.Common.{◌≡◌, Bool, true, Option, Some, Result, option_map, sym, ◌∙◌, ap, Box, Global}
use Rattle.std.proofs.lemmas.Bool.{false≢true}
use Rattle.std.proofs.lemmas.Result.{IfOk-weaker}
use Rattle.std.specs.Result.{IfOk}
use Rattle.rdf_core.specs.declared.term.Term.{Term}
use Rattle.rdf_core.specs.Equality.{term_eq}
use Rattle.algebra_model.specs.Solution.{Solution}
use Rattle.algebra_model.specs.BooleanValue.{logical_and, logical_not, logical_or}
use Rattle.algebra_model.specs.Call.{call_value}
use Rattle.algebra_model.specs.Comparison.{compares}
use Rattle.algebra_model.specs.Expression.{Expression, boolean_result, val, with_value, with_values}
use Rattle.sparql_tree.specs.declared.expression.Comparison.{Comparison}
use Rattle.sparql_tree.specs.declared.expression.Function.{Function}
use Rattle.expression_values.specs.ExpressionOf.{comparison_of, expression_of, expression_step, function_of}
use Rattle.expression_values.specs.HeldTerm.{value_term}
use Rattle.expression_values.specs.NoAllocation.{is_borrowed, need, none_where}
use Rattle.expression_values.specs.declared.expression.Expr.{Expr}
use Rattle.expression_values.specs.declared.expression.Expr.TheFolds.{fold-roll-Expr}
use Rattle.expression_values.specs.declared.expression.Expr.TheOpen.{Expr-F}
use Rattle.expression_values.specs.declared.expression.Expr.TheVariants as variants
use Rattle.expression_values.specs.declared.expression.Expr.TheViews as views
use Rattle.expression_values.specs.declared.held.Value as value
use Rattle.expression_values.proofs.FoldSteps.{and_stands_for, or_stands_for}
use Rattle.expression_values.proofs.OperandSteps.{truth}

-- a clause on a value, with an equal term
pub valued_as : {E : Type 0} (r : Result (Option value.Value) E) (a b : Option Term) → a ≡ b
    → IfOk r (λ v. option_map value_term v ≡ a) → IfOk r (λ v. option_map value_term v ≡ b)
valued_as r a b e = IfOk-weaker r (λ v. option_map value_term v ≡ a) (λ v. option_map value_term v ≡ b) (λ v h. h ∙ e)

-- an expression with operands is no variable or constant
pub not_borrowed : (whole e : Expr) (b : Bool) → whole ≡ e → need e ≡ none_where b → is_borrowed whole ≡ true → ⊥
not_borrowed whole e b is none h = false≢true (sym (ap (λ n. n.is_borrowed) (ap need is ∙ none)) ∙ h)

pub or_value : (left right : Box Expr Global) (whole l : Expr) (r : Option Bool) (μ : Solution Term) → whole ≡ views.Or left right
    → l ≡ left.value → r ≡ truth right.value μ
    → boolean_result (logical_or (truth l μ) r) ≡ val (expression_of whole) μ
or_value left right whole l r μ is p q =
    (λ i. boolean_result (logical_or (truth (p i) μ) (q i)))
    ∙ ap (λ e. val e μ) (sym (ap expression_of is ∙ or_stands_for left right))

pub and_value : (left right : Box Expr Global) (whole l : Expr) (r : Option Bool) (μ : Solution Term) → whole ≡ views.And left right
    → l ≡ left.value → r ≡ truth right.value μ
    → boolean_result (logical_and (truth l μ) r) ≡ val (expression_of whole) μ
and_value left right whole l r μ is p q =
    (λ i. boolean_result (logical_and (truth (p i) μ) (q i)))
    ∙ ap (λ e. val e μ) (sym (ap expression_of is ∙ and_stands_for left right))

pub not_value : (inner : Box Expr Global) (whole e : Expr) (μ : Solution Term) → whole ≡ views.Not inner → e ≡ inner.value
    → boolean_result (logical_not (truth e μ)) ≡ val (expression_of whole) μ
not_value inner whole e μ is p =
    ap (λ x. boolean_result (logical_not (truth x μ))) p
    ∙ ap (λ x. val x μ) (sym (ap expression_of (is ∙ sym (variants.rolls-Not inner)) ∙ fold-roll-Expr Expression expression_step (Expr-F.Not inner)))

pub compare_value : (op : Comparison) (left right : Box Expr Global) (whole r : Expr) (l : Option Term) (μ : Solution Term) → whole ≡ views.Compare op left right
    → l ≡ val (expression_of left.value) μ → r ≡ right.value
    → boolean_result (with_values l (val (expression_of r) μ) (compares (comparison_of op))) ≡ val (expression_of whole) μ
compare_value op left right whole r l μ is p q =
    (λ i. boolean_result (with_values (p i) (val (expression_of (q i)) μ) (compares (comparison_of op))))
    ∙ ap (λ x. val x μ) (sym (ap expression_of (is ∙ sym (variants.rolls-Compare op left right)) ∙ fold-roll-Expr Expression expression_step (Expr-F.Compare op left right)))

pub same_term_value : (left right : Box Expr Global) (whole r : Expr) (l : Option Term) (μ : Solution Term) → whole ≡ views.SameTerm left right
    → l ≡ val (expression_of left.value) μ → r ≡ right.value
    → boolean_result (with_values l (val (expression_of r) μ) (λ s t. Some (term_eq s t))) ≡ val (expression_of whole) μ
same_term_value left right whole r l μ is p q =
    (λ i. boolean_result (with_values (p i) (val (expression_of (q i)) μ) (λ s t. Some (term_eq s t))))
    ∙ ap (λ x. val x μ) (sym (ap expression_of (is ∙ sym (variants.rolls-SameTerm left right)) ∙ fold-roll-Expr Expression expression_step (Expr-F.SameTerm left right)))

pub call_of_value : (f : Function) (argument : Box Expr Global) (whole a : Expr) (μ : Solution Term) → whole ≡ views.Call f argument → a ≡ argument.value
    → with_value (val (expression_of a) μ) (call_value (function_of f)) ≡ val (expression_of whole) μ
call_of_value f argument whole a μ is p =
    ap (λ x. with_value (val (expression_of x) μ) (call_value (function_of f))) p
    ∙ ap (λ x. val x μ) (sym (ap expression_of (is ∙ sym (variants.rolls-Call f argument)) ∙ fold-roll-Expr Expression expression_step (Expr-F.Call f argument)))
