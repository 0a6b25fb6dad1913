-- What an operator of a tree needs, from what its inputs need.
use Rattle.std.proofs.Common.{◌≡◌, ◌⊎◌, ℕ, Bool, ◌||◌, List, [], Box, Vec, Global, inl, inr, sym, ap, ◌∙◌}
use Rattle.rdf_core.specs.QuadParts.{QuadParts}
use Rattle.algebra_model.specs.Algebra as algebra
use Rattle.algebra_model.specs.Algebra.{Algebra}
use Rattle.sparql_algebra.specs.AlgebraOf.{algebra_of, algebra_step, graph_name_of}
use Rattle.sparql_algebra.specs.declared.operator.GraphName.{GraphName}
use Rattle.sparql_algebra.specs.declared.operator.Operator.{Operator}
use Rattle.sparql_algebra.specs.declared.operator.Operator.TheFolds.{fold-roll-Operator}
use Rattle.sparql_algebra.specs.declared.operator.Operator.TheOpen.{Operator-F}
use Rattle.sparql_algebra.specs.declared.operator.Operator.TheVariants as variants
use Rattle.sparql_algebra.specs.declared.operator.Operator.TheViews as views
use Rattle.needed_quads.specs.Needed.{is_needed}
use Rattle.needed_quads.specs.Restriction.{Restriction, restrictions}

-- ---- the algebra expressions of operators

pub join_denotes : (l r : Box Operator Global) → algebra_of (views.Join l r) ≡ algebra.Join (algebra_of l.value) (algebra_of r.value)
join_denotes l r = ap algebra_of (sym (variants.rolls-Join l r)) ∙ fold-roll-Operator Algebra algebra_step (Operator-F.Join l r)

pub union_denotes : (l r : Box Operator Global) → algebra_of (views.Union l r) ≡ algebra.Union (algebra_of l.value) (algebra_of r.value)
union_denotes l r = ap algebra_of (sym (variants.rolls-Union l r)) ∙ fold-roll-Operator Algebra algebra_step (Operator-F.Union l r)

pub graph_denotes : (name : GraphName) (t : Box Operator Global) → algebra_of (views.Graph name t) ≡ algebra.Graph (graph_name_of name) (algebra_of t.value)
graph_denotes name t = ap algebra_of (sym (variants.rolls-Graph name t)) ∙ fold-roll-Operator Algebra algebra_step (Operator-F.Graph name t)

-- ---- operators that need the same

module _ (tree : Operator) (q : QuadParts) (here : Bool) (R : List Restriction) where
  abbrev needed : Algebra → Bool
  needed A = is_needed q here R A

  -- LeftJoin and Minus
  pub left_needs : (l r : Box Operator Global) → ((e : _) × (tree ≡ views.LeftJoin l r e)) ⊎ (tree ≡ views.Minus l r)
      → needed (algebra_of tree) ≡ (needed (algebra_of l.value) || is_needed q here (restrictions (algebra_of l.value)) (algebra_of r.value))
  left_needs l r (inl p) = ap (λ t. needed (algebra_of t)) (p.1 ∙ sym (variants.rolls-LeftJoin l r p.0)) ∙ ap needed (fold-roll-Operator Algebra algebra_step (Operator-F.LeftJoin l r p.0))
  left_needs l r (inr e) = ap (λ t. needed (algebra_of t)) (e ∙ sym (variants.rolls-Minus l r)) ∙ ap needed (fold-roll-Operator Algebra algebra_step (Operator-F.Minus l r))

  -- Filter and Extend
  pub inner_needs : (t : Box Operator Global) → ((e : _) × (tree ≡ views.Filter e t)) ⊎ ((v : ℕ) × (e : _) × (tree ≡ views.Extend v e t))
      → needed (algebra_of tree) ≡ needed (algebra_of t.value)
  inner_needs t (inl p) = ap (λ x. needed (algebra_of x)) (p.1 ∙ sym (variants.rolls-Filter p.0 t)) ∙ ap needed (fold-roll-Operator Algebra algebra_step (Operator-F.Filter p.0 t))
  inner_needs t (inr p) = ap (λ x. needed (algebra_of x)) (p.2 ∙ sym (variants.rolls-Extend p.0 p.1 t)) ∙ ap needed (fold-roll-Operator Algebra algebra_step (Operator-F.Extend p.0 p.1 t))

  -- Project and Distinct
  pub open_needs : (t : Box Operator Global) → ((vs : Vec ℕ Global) × (tree ≡ views.Project vs t)) ⊎ (tree ≡ views.Distinct t)
      → needed (algebra_of tree) ≡ is_needed q here [] (algebra_of t.value)
  open_needs t (inl p) = ap (λ x. needed (algebra_of x)) (p.1 ∙ sym (variants.rolls-Project p.0 t)) ∙ ap needed (fold-roll-Operator Algebra algebra_step (Operator-F.Project p.0 t))
  open_needs t (inr e) = ap (λ x. needed (algebra_of x)) (e ∙ sym (variants.rolls-Distinct t)) ∙ ap needed (fold-roll-Operator Algebra algebra_step (Operator-F.Distinct t))
