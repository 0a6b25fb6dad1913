-- The variables that the parts of an expression mention.
use Rattle.std.proofs.Common.{◌≡◌, ℕ, zero, suc, Bool, true, false, ◌||◌, List, [], ◌∷◌, map, slice_get, Some, Box, Vec, Global, refl, sym, ap, ◌∙◌}
use Rattle.std.specs.List.{list_any}
use Rattle.rdf_core.specs.declared.term.Term.{Term}
use Rattle.algebra_model.specs.Expression.{Expression, constant, negation, member, call, bound}
use Rattle.expression_values.specs.ExpressionOf.{expression_of, expression_step, function_of}
use Rattle.expression_values.specs.declared.expression.Expr.{Expr}
use Rattle.expression_values.specs.declared.expression.Expr.TheFolds.{fold-roll-Expr}
use Rattle.expression_values.specs.declared.expression.Expr.TheOpen.{Expr-F}
use Rattle.expression_values.specs.declared.expression.Expr.TheVariants as variants
use Rattle.expression_values.specs.declared.expression.Expr.TheViews as views
use Rattle.sparql_eval.specs.Mentions.{mentions}
use Rattle.sparql_eval.proofs.UnboundLaws.{neither}

-- the two operands do not mention what the whole does not mention
pub neither_mentions : (whole a b l r result : Bool) → whole ≡ (a || b) → result ≡ (l || r) → (l ≡ false → a ≡ false) → (r ≡ false → b ≡ false) → result ≡ false → whole ≡ false
neither_mentions whole a b l r result is made h k none =
    let p = neither l r (sym made ∙ none) in
    is ∙ (λ i. h p.0 i || k p.1 i)

-- ---- what the variants denote

pub not_denotes : (a : Box Expr Global) → expression_of (views.Not a) ≡ negation (expression_of a.value)
not_denotes a = ap expression_of (sym (variants.rolls-Not a)) ∙ fold-roll-Expr Expression expression_step (Expr-F.Not a)

pub call_denotes : (f : _) (a : Box Expr Global) → expression_of (views.Call f a) ≡ call (function_of f) (expression_of a.value)
call_denotes f a = ap expression_of (sym (variants.rolls-Call f a)) ∙ fold-roll-Expr Expression expression_step (Expr-F.Call f a)

pub bound_denotes : (v : ℕ) → expression_of (variants.Bound v) ≡ bound v
bound_denotes v = ap expression_of (sym (variants.rolls-Bound v)) ∙ fold-roll-Expr Expression expression_step (Expr-F.Bound v)

pub constant_denotes : (t : Term) → expression_of (variants.Constant t) ≡ constant t
constant_denotes t = ap expression_of (sym (variants.rolls-Constant t)) ∙ fold-roll-Expr Expression expression_step (Expr-F.Constant t)

pub in_denotes : (item : Box Expr Global) (list : Vec Expr Global) → expression_of (views.In item list) ≡ member (expression_of item.value) (map expression_of list.items)
in_denotes item list = ap expression_of (sym (variants.rolls-In item list)) ∙ fold-roll-Expr Expression expression_step (Expr-F.In item list)

-- ---- IN

member_mentions : (x : Expression) (es : List Expression) (v : ℕ) → mentions x v ≡ false → list_any (λ e. mentions e v) es ≡ false → mentions (member x es) v ≡ false
member_mentions x [] v h k = refl
member_mentions x (e ∷ es) v h k =
    let p = neither (mentions e v) (list_any (λ e. mentions e v) es) k in
    λ i. (h i || p.0 i) || member_mentions x es v h p.1 i

-- neither the item nor the list mentions what the whole does not mention
pub in_mentions : (item : Box Expr Global) (list : Vec Expr Global) (v : ℕ) (l r result : Bool) → result ≡ (l || r) → (l ≡ false → mentions (expression_of item.value) v ≡ false)
    → (r ≡ false → list_any (λ e. mentions e v) (map expression_of list.items) ≡ false) → result ≡ false → mentions (expression_of (views.In item list)) v ≡ false
in_mentions item list v l r result made h k none =
    let p = neither l r (sym made ∙ none) in
    ap (λ (e : Expression). mentions e v) (in_denotes item list) ∙ member_mentions (expression_of item.value) (map expression_of list.items) v (h p.0) (k p.1)

-- ---- the places of triple patterns

-- one element that passes the test
pub any_mapped : {X Y : Type 0} (f : X → Y) (p : Y → Bool) (xs : List X) (k : ℕ) (x : X) → slice_get xs k ≡ Some x → p (f x) ≡ true → list_any p (map f xs) ≡ true
any_mapped f p [] k x e h = cc
any_mapped f p (y ∷ xs) zero x e h = let is : y ≡ x = cc in ap (λ z. p (f z) || list_any p (map f xs)) is ∙ ap (λ b. b || list_any p (map f xs)) h
any_mapped f p (y ∷ xs) (suc k) x e h = ap (λ b. p (f y) || b) (any_mapped f p xs k x e h) ∙ either_true (p (f y))
  where
    either_true : (b : Bool) → (b || true) ≡ true
    either_true true = refl
    either_true false = refl
