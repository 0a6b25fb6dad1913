-- The node of the model for each node of the code.
use Rattle.std.proofs.Common.{◌≡◌, sym, ◌∙◌, ap, subst, List, Box, Vec, Global}
use Rattle.rdf_core.specs.declared.term.Term.{Term}
use Rattle.rdf_core.specs.declared.text.Text.{Text}
use Rattle.sparql_tree.specs.ExpressionTree.{ExpressionTree, expression_of, expressions_of, expression_step}
use Rattle.sparql_tree.specs.ExpressionTree as x
use Rattle.sparql_tree.specs.declared.expression.Comparison.{Comparison}
use Rattle.sparql_tree.specs.declared.expression.Expression.{Expression}
use Rattle.sparql_tree.specs.declared.expression.Expression.TheFolds.{fold-roll-Expression}
use Rattle.sparql_tree.specs.declared.expression.Expression.TheOpen.{Expression-F}
use Rattle.sparql_tree.specs.declared.expression.Expression.TheVariants as variants
use Rattle.sparql_tree.specs.declared.expression.Expression.TheViews as views
use Rattle.sparql_tree.specs.declared.expression.Function.{Function}
use Rattle.sparql_lexer.specs.Terminal.{Terminal}
use Rattle.sparql_grammar.specs.Productions.{right_side}
use Rattle.sparql_grammar.specs.Symbol as the
use Rattle.sparql_grammar.specs.Values.{Names}
use Rattle.sparql_expression.proofs.Steps.{Left}

-- two nodes that have equal parts
both_ways : (f : ExpressionTree → ExpressionTree → ExpressionTree) {a b c d : Expression} → a ≡ c → b ≡ d → f (expression_of a) (expression_of b) ≡ f (expression_of c) (expression_of d)
both_ways f {b = b} {c = c} h i = ap (λ e. f (expression_of e) (expression_of b)) h ∙ ap (λ e. f (expression_of c) (expression_of e)) i

pub or_seen : (a b : Box Expression Global) {l r : Expression} → a.value ≡ l → b.value ≡ r → expression_of (views.Or a b) ≡ x.either (expression_of l) (expression_of r)
or_seen a b h i = ap expression_of (sym (variants.rolls-Or a b)) ∙ fold-roll-Expression ExpressionTree expression_step (Expression-F.Or a b) ∙ both_ways x.either h i

pub and_seen : (a b : Box Expression Global) {l r : Expression} → a.value ≡ l → b.value ≡ r → expression_of (views.And a b) ≡ x.both (expression_of l) (expression_of r)
and_seen a b h i = ap expression_of (sym (variants.rolls-And a b)) ∙ fold-roll-Expression ExpressionTree expression_step (Expression-F.And a b) ∙ both_ways x.both h i

pub same_term_seen : (a b : Box Expression Global) {l r : Expression} → a.value ≡ l → b.value ≡ r → expression_of (views.SameTerm a b) ≡ x.same_term (expression_of l) (expression_of r)
same_term_seen a b h i = ap expression_of (sym (variants.rolls-SameTerm a b)) ∙ fold-roll-Expression ExpressionTree expression_step (Expression-F.SameTerm a b) ∙ both_ways x.same_term h i

pub comparison_seen : (op : Comparison) (a b : Box Expression Global) {l r : Expression} → a.value ≡ l → b.value ≡ r → expression_of (views.Compare op a b) ≡ x.comparison op (expression_of l) (expression_of r)
comparison_seen op a b h i = ap expression_of (sym (variants.rolls-Compare op a b)) ∙ fold-roll-Expression ExpressionTree expression_step (Expression-F.Compare op a b) ∙ both_ways (x.comparison op) h i

pub not_seen : (a : Box Expression Global) {e : Expression} → a.value ≡ e → expression_of (views.Not a) ≡ x.negation (expression_of e)
not_seen a h = ap expression_of (sym (variants.rolls-Not a)) ∙ fold-roll-Expression ExpressionTree expression_step (Expression-F.Not a) ∙ ap (λ e. x.negation (expression_of e)) h

pub in_seen : (a : Box Expression Global) (es : Vec Expression Global) {e : Expression} → a.value ≡ e → expression_of (views.In a es) ≡ x.member (expression_of e) (expressions_of es.items)
in_seen a es h = ap expression_of (sym (variants.rolls-In a es)) ∙ fold-roll-Expression ExpressionTree expression_step (Expression-F.In a es) ∙ ap (λ e. x.member (expression_of e) (expressions_of es.items)) h

pub call_seen : (f : Function) (a : Box Expression Global) {e : Expression} → a.value ≡ e → expression_of (views.Call f a) ≡ x.call f (expression_of e)
call_seen f a h = ap expression_of (sym (variants.rolls-Call f a)) ∙ fold-roll-Expression ExpressionTree expression_step (Expression-F.Call f a) ∙ ap (λ e. x.call f (expression_of e)) h

pub bound_seen : (n : Text) → expression_of (variants.Bound n) ≡ x.bound n
bound_seen n = ap expression_of (sym (variants.rolls-Bound n)) ∙ fold-roll-Expression ExpressionTree expression_step (Expression-F.Bound n)

pub variable_seen : (n : Text) → expression_of (variants.Variable n) ≡ x.variable n
variable_seen n = ap expression_of (sym (variants.rolls-Variable n)) ∙ fold-roll-Expression ExpressionTree expression_step (Expression-F.Variable n)

pub constant_seen : (t : Term) → expression_of (variants.Constant t) ≡ x.constant t
constant_seen t = ap expression_of (sym (variants.rolls-Constant t)) ∙ fold-roll-Expression ExpressionTree expression_step (Expression-F.Constant t)

-- the expression that was read, under another name

pub disjunction_at : {names : Names} {ts mid : List Terminal} {e f : ExpressionTree} → f ≡ e
    → Left names the.disjunction ts (the.more_or e) (λ v. v) (right_side (the.more_or e)) mid
    → Left names the.disjunction ts (the.more_or f) (λ v. v) (right_side (the.more_or f)) mid
disjunction_at {names = names} {ts = ts} {mid = mid} h l =
    subst (λ e. Left names the.disjunction ts (the.more_or e) (λ v. v) (right_side (the.more_or e)) mid) (sym h) l

pub conjunction_at : {names : Names} {ts mid : List Terminal} {e f : ExpressionTree} → f ≡ e
    → Left names the.conjunction ts (the.more_and e) (λ v. v) (right_side (the.more_and e)) mid
    → Left names the.conjunction ts (the.more_and f) (λ v. v) (right_side (the.more_and f)) mid
conjunction_at {names = names} {ts = ts} {mid = mid} h l =
    subst (λ e. Left names the.conjunction ts (the.more_and e) (λ v. v) (right_side (the.more_and e)) mid) (sym h) l
