-- A list of expressions with one more element at its end.
use Rattle.std.proofs.Common.{◌≡◌, List, [], ◌∷◌, ◌++◌, map, refl, sym, subst}
use Rattle.sparql_tree.specs.declared.expression.Expression.{Expression}
use Rattle.sparql_tree.specs.ExpressionTree.{ExpressionTree, Expressions, none, then, onto, expression_of, expressions_of}
use Rattle.sparql_lexer.specs.Terminal.{Terminal}
use Rattle.sparql_grammar.specs.Productions.{right_side}
use Rattle.sparql_grammar.specs.Symbol as the
use Rattle.sparql_grammar.specs.Values.{Names}
use Rattle.sparql_expression.proofs.Steps.{Left}

onto_pushed : (es : Expressions) (xs : List Expression) (x : Expression) → onto es (map expression_of (xs ++ x ∷ [])) ≡ then (onto es (map expression_of xs)) (expression_of x)
onto_pushed es [] x = refl
onto_pushed es (y ∷ ys) x = onto_pushed (then es (expression_of y)) ys x

pub pushed : (xs : List Expression) (x : Expression) → expressions_of (xs ++ x ∷ []) ≡ then (expressions_of xs) (expression_of x)
pushed xs x = onto_pushed none xs x

-- the members that were read, under another name
pub members_at : {names : Names} {ts mid : List Terminal} (es fs : Expressions) → fs ≡ es
    → Left names the.members ts (the.more_members es) (λ v. v) (right_side (the.more_members es)) mid
    → Left names the.members ts (the.more_members fs) (λ v. v) (right_side (the.more_members fs)) mid
members_at {names = names} {ts = ts} {mid = mid} es fs e l =
    subst (λ es. Left names the.members ts (the.more_members es) (λ v. v) (right_side (the.more_members es)) mid) (sym e) l
