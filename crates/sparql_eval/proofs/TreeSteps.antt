-- The solutions of each operator of a tree, from the solutions of the trees below it.
use Rattle.std.proofs.Common.{◌≡◌, ℕ, List, ◌++◌, map, filter, Option, sym, ap, ◌∙◌, Box, Vec, Global}
use Rattle.std.specs.Option.{option_map}
use Rattle.rdf_core.specs.declared.term.Term.{Term}
use Rattle.rdf_core.proofs.TermLaws.{term_eq}
use Rattle.algebra_model.specs.Algebra as algebra
use Rattle.algebra_model.specs.Algebra.{Algebra}
use Rattle.algebra_model.specs.Eval.{eval}
use Rattle.algebra_model.specs.Expression.{holds, val}
use Rattle.algebra_model.specs.Operators.{join, left_join, minus, extend, project, distinct, table}
use Rattle.algebra_model.specs.Solution.{Solution}
use Rattle.dict_core.specs.Dict.{term_at}
use Rattle.dict_core.specs.NumQuad.{quads_at}
use Rattle.dict_core.specs.declared.num_quad.NumQuad.{NumQuad}
use Rattle.expression_values.specs.ExpressionOf.{expression_of}
use Rattle.expression_values.specs.declared.expression.Expr.{Expr}
use Rattle.sparql_algebra.specs.AlgebraOf.{algebra_of, algebra_step, graph_name_of}
use Rattle.sparql_algebra.specs.declared.operator.GraphName.{GraphName}
use Rattle.sparql_algebra.specs.declared.operator.Operator.{Operator}
use Rattle.sparql_algebra.specs.declared.operator.Operator.TheFolds.{fold-roll-Operator}
use Rattle.sparql_algebra.specs.declared.operator.Operator.TheOpen.{Operator-F}
use Rattle.sparql_algebra.specs.declared.operator.Operator.TheVariants as variants
use Rattle.sparql_algebra.specs.declared.operator.Operator.TheViews as views
use Rattle.sparql_eval.specs.TreeSolutions.{graph_solutions, tree_solutions}

pub join_denotes : (l r : Box Operator Global) → algebra_of (views.Join l r) ≡ algebra.Join (algebra_of l.value) (algebra_of r.value)
join_denotes l r = ap algebra_of (sym (variants.rolls-Join l r)) ∙ fold-roll-Operator Algebra algebra_step (Operator-F.Join l r)

pub left_join_denotes : (l r : Box Operator Global) (e : Expr) → algebra_of (views.LeftJoin l r e) ≡ algebra.LeftJoin (algebra_of l.value) (algebra_of r.value) (expression_of e)
left_join_denotes l r e = ap algebra_of (sym (variants.rolls-LeftJoin l r e)) ∙ fold-roll-Operator Algebra algebra_step (Operator-F.LeftJoin l r e)

pub union_denotes : (l r : Box Operator Global) → algebra_of (views.Union l r) ≡ algebra.Union (algebra_of l.value) (algebra_of r.value)
union_denotes l r = ap algebra_of (sym (variants.rolls-Union l r)) ∙ fold-roll-Operator Algebra algebra_step (Operator-F.Union l r)

pub minus_denotes : (l r : Box Operator Global) → algebra_of (views.Minus l r) ≡ algebra.Minus (algebra_of l.value) (algebra_of r.value)
minus_denotes l r = ap algebra_of (sym (variants.rolls-Minus l r)) ∙ fold-roll-Operator Algebra algebra_step (Operator-F.Minus l r)

pub graph_denotes : (name : GraphName) (t : Box Operator Global) → algebra_of (views.Graph name t) ≡ algebra.Graph (graph_name_of name) (algebra_of t.value)
graph_denotes name t = ap algebra_of (sym (variants.rolls-Graph name t)) ∙ fold-roll-Operator Algebra algebra_step (Operator-F.Graph name t)

pub filter_denotes : (e : Expr) (t : Box Operator Global) → algebra_of (views.Filter e t) ≡ algebra.Filter (expression_of e) (algebra_of t.value)
filter_denotes e t = ap algebra_of (sym (variants.rolls-Filter e t)) ∙ fold-roll-Operator Algebra algebra_step (Operator-F.Filter e t)

pub extend_denotes : (v : ℕ) (e : Expr) (t : Box Operator Global) → algebra_of (views.Extend v e t) ≡ algebra.Extend v (expression_of e) (algebra_of t.value)
extend_denotes v e t = ap algebra_of (sym (variants.rolls-Extend v e t)) ∙ fold-roll-Operator Algebra algebra_step (Operator-F.Extend v e t)

pub project_denotes : (vs : Vec ℕ Global) (t : Box Operator Global) → algebra_of (views.Project vs t) ≡ algebra.Project vs.items (algebra_of t.value)
project_denotes vs t = ap algebra_of (sym (variants.rolls-Project vs t)) ∙ fold-roll-Operator Algebra algebra_step (Operator-F.Project vs t)

pub distinct_denotes : (t : Box Operator Global) → algebra_of (views.Distinct t) ≡ algebra.Distinct (algebra_of t.value)
distinct_denotes t = ap algebra_of (sym (variants.rolls-Distinct t)) ∙ fold-roll-Operator Algebra algebra_step (Operator-F.Distinct t)

pub table_denotes : (variables : Vec ℕ Global) (rows : Vec (Vec (Option Term) Global) Global)
    → algebra_of (variants.Table variables rows) ≡ algebra.Table variables.items (map (λ row. row.items) rows.items)
table_denotes variables rows = ap algebra_of (sym (variants.rolls-Table variables rows)) ∙ fold-roll-Operator Algebra algebra_step (Operator-F.Table variables rows)

module _ (terms : List Term) (D : List NumQuad) (w : ℕ) (g : Option ℕ) where
  abbrev of : Operator → List (Solution Term)
  of tree = tree_solutions terms D w g tree

  abbrev solved : Algebra → List (Solution Term)
  solved A = eval w (quads_at terms D) (option_map (term_at terms) g) A

  pub join_tree : (l r : Box Operator Global) → of (views.Join l r) ≡ join term_eq (of l.value) (of r.value)
  join_tree l r = ap solved (join_denotes l r)

  pub left_join_tree : (l r : Box Operator Global) (e : Expr) → of (views.LeftJoin l r e) ≡ left_join term_eq (holds (expression_of e)) (of l.value) (of r.value)
  left_join_tree l r e = ap solved (left_join_denotes l r e)

  pub union_tree : (l r : Box Operator Global) → of (views.Union l r) ≡ of l.value ++ of r.value
  union_tree l r = ap solved (union_denotes l r)

  pub minus_tree : (l r : Box Operator Global) → of (views.Minus l r) ≡ minus term_eq (of l.value) (of r.value)
  minus_tree l r = ap solved (minus_denotes l r)

  pub graph_tree : (name : GraphName) (t : Box Operator Global) → of (views.Graph name t) ≡ graph_solutions terms D w (graph_name_of name) t.value
  graph_tree name t = ap solved (graph_denotes name t)

  pub filter_tree : (e : Expr) (t : Box Operator Global) → of (views.Filter e t) ≡ filter (holds (expression_of e)) (of t.value)
  filter_tree e t = ap solved (filter_denotes e t)

  pub extend_tree : (v : ℕ) (e : Expr) (t : Box Operator Global) → of (views.Extend v e t) ≡ extend v (val (expression_of e)) (of t.value)
  extend_tree v e t = ap solved (extend_denotes v e t)

  pub project_tree : (vs : Vec ℕ Global) (t : Box Operator Global) → of (views.Project vs t) ≡ project vs.items (of t.value)
  project_tree vs t = ap solved (project_denotes vs t)

  pub distinct_tree : (t : Box Operator Global) → of (views.Distinct t) ≡ distinct term_eq (of t.value)
  distinct_tree t = ap solved (distinct_denotes t)

  pub table_tree : (vs : Vec ℕ Global) (rows : Vec (Vec (Option Term) Global) Global) → of (variants.Table vs rows) ≡ table w vs.items (map (λ row. row.items) rows.items)
  table_tree vs rows = ap solved (table_denotes vs rows)
