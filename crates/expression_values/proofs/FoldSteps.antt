-- The meaning of an expression of the program, variant by variant, and its depth.
use Rattle.std.proofs.Common.{◌≡◌, ◌≤◌, List, map, sym, ◌∙◌, ap, arith, Box, Vec, Global}
use Rattle.algebra_model.specs.Expression.{Expression, both, either, member}
use Rattle.expression_values.specs.ExpressionOf.{expression_of, expression_step}
use Rattle.expression_values.specs.declared.expression.Expr.{Expr, size-Expr}
use Rattle.expression_values.specs.declared.expression.Expr.TheFolds.{fold-roll-Expr}
use Rattle.expression_values.specs.declared.expression.Expr.TheOpen.{Expr-F}
use Rattle.expression_values.specs.declared.expression.Expr.TheVariants as variants
use Rattle.expression_values.specs.declared.expression.Expr.TheViews as views

pub in_stands_for : (item : Box Expr Global) (list : Vec Expr Global)
    → expression_of (views.In item list) ≡ member (expression_of item.value) (map expression_of list.items)
in_stands_for item list =
    ap expression_of (sym (variants.rolls-In item list)) ∙ fold-roll-Expr Expression expression_step (Expr-F.In item list)

pub or_stands_for : (left right : Box Expr Global)
    → expression_of (views.Or left right) ≡ either (expression_of left.value) (expression_of right.value)
or_stands_for left right =
    ap expression_of (sym (variants.rolls-Or left right)) ∙ fold-roll-Expr Expression expression_step (Expr-F.Or left right)

pub and_stands_for : (left right : Box Expr Global)
    → expression_of (views.And left right) ≡ both (expression_of left.value) (expression_of right.value)
and_stands_for left right =
    ap expression_of (sym (variants.rolls-And left right)) ∙ fold-roll-Expr Expression expression_step (Expr-F.And left right)

-- a side is no deeper than the whole
pub or_deeper : (left right : Box Expr Global) → size-Expr left.value ≤ size-Expr (views.Or left right)
or_deeper left right = rw (views.sized-Or left right) (omega arith)

pub and_deeper : (left right : Box Expr Global) → size-Expr left.value ≤ size-Expr (views.And left right)
and_deeper left right = rw (views.sized-And left right) (omega arith)
