-- The trees below a tree have only variables that the tree may have.
use Rattle.std.proofs.Common.{◌≡◌, ℕ, ◌<◌, Bool, true, false, ◌&&◌, refl, ap, ◌∙◌, subst, Box, Vec, Global, nat_lt}
use Rattle.std.specs.List.{list_all}
use Rattle.std.proofs.lemmas.Bool.{false≢true, ltb-true}
use Rattle.algebra_model.specs.Algebra.{Algebra, is_name_below, is_within}
use Rattle.expression_values.specs.declared.expression.Expr.{Expr}
use Rattle.sparql_algebra.specs.AlgebraOf.{algebra_of, graph_name_of}
use Rattle.sparql_algebra.specs.declared.operator.GraphName.{GraphName}
use Rattle.sparql_algebra.specs.declared.operator.Operator.{Operator}
use Rattle.sparql_algebra.specs.declared.operator.Operator.TheViews as views
use Rattle.sparql_eval.proofs.TreeSteps.{distinct_denotes, extend_denotes, filter_denotes, graph_denotes, join_denotes, left_join_denotes, minus_denotes, project_denotes, union_denotes}

both_true : (a b : Bool) → a && b ≡ true → (a ≡ true) × (b ≡ true)
both_true true b h = (refl, h)
both_true false b h = absurd (false≢true h)

as_algebra : (w : ℕ) (tree : Operator) (A : Algebra) → algebra_of tree ≡ A → is_within w (algebra_of tree) ≡ true → is_within w A ≡ true
as_algebra w tree A is h = subst (λ (B : Algebra). is_within w B ≡ true) is h

abbrev IsIn : ℕ → Operator → Type 0
IsIn w tree = is_within w (algebra_of tree) ≡ true

pub join_within : (w : ℕ) (l r : Box Operator Global) (tree : Operator) → tree ≡ views.Join l r → IsIn w tree → IsIn w l.value × IsIn w r.value
join_within w l r tree is h = both_true (is_within w (algebra_of l.value)) (is_within w (algebra_of r.value)) (as_algebra w tree _ (ap algebra_of is ∙ join_denotes l r) h)

pub left_join_within : (w : ℕ) (l r : Box Operator Global) (e : Expr) (tree : Operator) → tree ≡ views.LeftJoin l r e → IsIn w tree → IsIn w l.value × IsIn w r.value
left_join_within w l r e tree is h = both_true (is_within w (algebra_of l.value)) (is_within w (algebra_of r.value)) (as_algebra w tree _ (ap algebra_of is ∙ left_join_denotes l r e) h)

pub union_within : (w : ℕ) (l r : Box Operator Global) (tree : Operator) → tree ≡ views.Union l r → IsIn w tree → IsIn w l.value × IsIn w r.value
union_within w l r tree is h = both_true (is_within w (algebra_of l.value)) (is_within w (algebra_of r.value)) (as_algebra w tree _ (ap algebra_of is ∙ union_denotes l r) h)

pub minus_within : (w : ℕ) (l r : Box Operator Global) (tree : Operator) → tree ≡ views.Minus l r → IsIn w tree → IsIn w l.value × IsIn w r.value
minus_within w l r tree is h = both_true (is_within w (algebra_of l.value)) (is_within w (algebra_of r.value)) (as_algebra w tree _ (ap algebra_of is ∙ minus_denotes l r) h)

pub graph_within : (w : ℕ) (name : GraphName) (t : Box Operator Global) (tree : Operator) → tree ≡ views.Graph name t → IsIn w tree → IsIn w t.value
graph_within w name t tree is h = (both_true (is_name_below w (graph_name_of name)) (is_within w (algebra_of t.value)) (as_algebra w tree _ (ap algebra_of is ∙ graph_denotes name t) h)).1

pub filter_within : (w : ℕ) (e : Expr) (t : Box Operator Global) (tree : Operator) → tree ≡ views.Filter e t → IsIn w tree → IsIn w t.value
filter_within w e t tree is h = as_algebra w tree _ (ap algebra_of is ∙ filter_denotes e t) h

pub extend_within : (w v : ℕ) (e : Expr) (t : Box Operator Global) (tree : Operator) → tree ≡ views.Extend v e t → IsIn w tree → IsIn w t.value
extend_within w v e t tree is h = (both_true (nat_lt v w) (is_within w (algebra_of t.value)) (as_algebra w tree _ (ap algebra_of is ∙ extend_denotes v e t) h)).1

pub extend_below : (w v : ℕ) (e : Expr) (t : Box Operator Global) (tree : Operator) → tree ≡ views.Extend v e t → IsIn w tree → v < w
extend_below w v e t tree is h = ltb-true v w (both_true (nat_lt v w) (is_within w (algebra_of t.value)) (as_algebra w tree _ (ap algebra_of is ∙ extend_denotes v e t) h)).0

pub project_within : (w : ℕ) (vs : Vec ℕ Global) (t : Box Operator Global) (tree : Operator) → tree ≡ views.Project vs t → IsIn w tree → IsIn w t.value
project_within w vs t tree is h = (both_true (list_all (λ v. nat_lt v w) vs.items) (is_within w (algebra_of t.value)) (as_algebra w tree _ (ap algebra_of is ∙ project_denotes vs t) h)).1

pub distinct_within : (w : ℕ) (t : Box Operator Global) (tree : Operator) → tree ≡ views.Distinct t → IsIn w tree → IsIn w t.value
distinct_within w t tree is h = as_algebra w tree _ (ap algebra_of is ∙ distinct_denotes t) h
