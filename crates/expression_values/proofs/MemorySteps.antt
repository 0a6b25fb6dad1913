-- The sides of an expression that allocates nothing allocate nothing, and if a list is borrowed,
-- each of its members is.
use Rattle.std.proofs.Common.{◌≡◌, ℕ, zero, suc, ◌<◌, length, get_or, Bool, true, ◌&&◌, List, [], ◌∷◌, sym, ◌∙◌, ap, arith, Box, Vec, Global}
use Rattle.std.proofs.lemmas.Bool.{and_parts}
use Rattle.sparql_tree.specs.declared.expression.Comparison.{Comparison}
use Rattle.sparql_tree.specs.declared.expression.Function.{Function}
use Rattle.expression_values.specs.ExpressionOf.{function_of}
use Rattle.expression_values.specs.NoAllocation.{Need, are_borrowed, is_borrowed, is_test, need, need_step, none_where, takes_none}
use Rattle.expression_values.specs.declared.expression.Expr.{Expr}
use Rattle.expression_values.specs.declared.expression.Expr.TheFolds.{fold-roll-Expr}
use Rattle.expression_values.specs.declared.expression.Expr.TheOpen.{Expr-F}
use Rattle.expression_values.specs.declared.expression.Expr.TheVariants as variants
use Rattle.expression_values.specs.declared.expression.Expr.TheViews as views

both_none : (e : Expr) (a b : Bool) → need e ≡ none_where (a && b) → takes_none e ≡ true → (a ≡ true) × (b ≡ true)
both_none e a b is h = and_parts a b (sym (ap (λ n. n.takes_none) is) ∙ h)

pub or_need : (left right : Box Expr Global) → need (views.Or left right) ≡ none_where (takes_none left.value && takes_none right.value)
or_need left right = ap need (sym (variants.rolls-Or left right)) ∙ fold-roll-Expr Need need_step (Expr-F.Or left right)

pub or_sides : (left right : Box Expr Global) → takes_none (views.Or left right) ≡ true → (takes_none left.value ≡ true) × (takes_none right.value ≡ true)
or_sides left right h = both_none (views.Or left right) (takes_none left.value) (takes_none right.value) (or_need left right) h

pub and_need : (left right : Box Expr Global) → need (views.And left right) ≡ none_where (takes_none left.value && takes_none right.value)
and_need left right = ap need (sym (variants.rolls-And left right)) ∙ fold-roll-Expr Need need_step (Expr-F.And left right)

pub and_sides : (left right : Box Expr Global) → takes_none (views.And left right) ≡ true → (takes_none left.value ≡ true) × (takes_none right.value ≡ true)
and_sides left right h = both_none (views.And left right) (takes_none left.value) (takes_none right.value) (and_need left right) h

pub compare_need : (op : Comparison) (left right : Box Expr Global) → need (views.Compare op left right) ≡ none_where (is_borrowed left.value && is_borrowed right.value)
compare_need op left right = ap need (sym (variants.rolls-Compare op left right)) ∙ fold-roll-Expr Need need_step (Expr-F.Compare op left right)

pub compare_sides : (op : Comparison) (left right : Box Expr Global) → takes_none (views.Compare op left right) ≡ true → (is_borrowed left.value ≡ true) × (is_borrowed right.value ≡ true)
compare_sides op left right h = both_none (views.Compare op left right) (is_borrowed left.value) (is_borrowed right.value) (compare_need op left right) h

pub in_need : (item : Box Expr Global) (list : Vec Expr Global) → need (views.In item list) ≡ none_where (is_borrowed item.value && are_borrowed list.items)
in_need item list = ap need (sym (variants.rolls-In item list)) ∙ fold-roll-Expr Need need_step (Expr-F.In item list)

pub in_sides : (item : Box Expr Global) (list : Vec Expr Global) → takes_none (views.In item list) ≡ true → (is_borrowed item.value ≡ true) × (are_borrowed list.items ≡ true)
in_sides item list h = both_none (views.In item list) (is_borrowed item.value) (are_borrowed list.items) (in_need item list) h

pub call_need : (f : Function) (argument : Box Expr Global) → need (views.Call f argument) ≡ none_where (is_borrowed argument.value && is_test (function_of f))
call_need f argument = ap need (sym (variants.rolls-Call f argument)) ∙ fold-roll-Expr Need need_step (Expr-F.Call f argument)

pub call_sides : (f : Function) (argument : Box Expr Global) → takes_none (views.Call f argument) ≡ true → (is_borrowed argument.value ≡ true) × (is_test (function_of f) ≡ true)
call_sides f argument h = both_none (views.Call f argument) (is_borrowed argument.value) (is_test (function_of f)) (call_need f argument) h

pub same_term_need : (left right : Box Expr Global) → need (views.SameTerm left right) ≡ none_where (is_borrowed left.value && is_borrowed right.value)
same_term_need left right = ap need (sym (variants.rolls-SameTerm left right)) ∙ fold-roll-Expr Need need_step (Expr-F.SameTerm left right)

pub same_term_sides : (left right : Box Expr Global) → takes_none (views.SameTerm left right) ≡ true → (is_borrowed left.value ≡ true) × (is_borrowed right.value ≡ true)
same_term_sides left right h = both_none (views.SameTerm left right) (is_borrowed left.value) (is_borrowed right.value) (same_term_need left right) h

pub not_need : (inner : Box Expr Global) → need (views.Not inner) ≡ none_where (takes_none inner.value)
not_need inner = ap need (sym (variants.rolls-Not inner)) ∙ fold-roll-Expr Need need_step (Expr-F.Not inner)

pub member_borrowed : (xs : List Expr) (i : ℕ) (d : Expr) → i < length xs → are_borrowed xs ≡ true → is_borrowed (get_or xs i d) ≡ true
member_borrowed [] i d lt h = absurd (omega arith)
member_borrowed (y ∷ ys) zero d lt h = (and_parts (is_borrowed y) (are_borrowed ys) h).0
member_borrowed (y ∷ ys) (suc i) d lt h = member_borrowed ys i d (omega arith) (and_parts (is_borrowed y) (are_borrowed ys) h).1
