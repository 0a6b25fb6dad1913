-- The evaluation of an algebra expression over a dataset with an active graph (SPARQL 1.1 Query
-- Language, section 18.6). All solutions have the width w, the count of the query's variables.
use Rattle.std.specs.Prelude.{ℕ, List, [], ◌∷◌, ◌++◌, Option, None, Some, filter, flat_map, if◌then◌else◌, replicate, set}
use Rattle.std.specs.List.{list_any}
use Rattle.rdf_core.specs.declared.term.Term.{Term}
use Rattle.rdf_core.specs.QuadParts.{QuadParts}
use Rattle.rdf_core.specs.Equality.{term_eq}
use Rattle.algebra_model.specs.Solution.{Solution}
use Rattle.algebra_model.specs.Bgp.{bgp}
use Rattle.algebra_model.specs.Operators.{join, left_join, minus, extend, project, distinct, table}
use Rattle.algebra_model.specs.Dataset.{graph, names}
use Rattle.algebra_model.specs.Expression.{val, holds}
use Rattle.algebra_model.specs.Algebra.{Algebra, Pattern, Join, LeftJoin, Union, Minus, Graph, Filter, Extend, Project, Distinct, Table, GraphName, each_graph, one_graph}

-- the one solution that binds the variable v to the term, and nothing else
abbrev pub named : {T : Type 0} → ℕ → ℕ → T → List (Solution T)
named w v i = set (replicate w None) v (Some i) ∷ []

module _ (w : ℕ) (D : List QuadParts) where
  -- The solutions of P in the graphs of the name (section 18.6, evaluation of Graph). Under a
  -- variable, P is evaluated in each named graph, and its solutions are joined with the graph's
  -- name. A name without a graph has no solutions, which is a choice of this project.
  abbrev pub in_graphs : GraphName → (Option Term → List (Solution Term)) → List (Solution Term)
  in_graphs (each_graph v) P = flat_map (λ i. join term_eq (P (Some i)) (named w v i)) (names D)
  in_graphs (one_graph i) P = if list_any (term_eq i) (names D) then P (Some i) else []

  -- the solutions, where g is the name of the active graph, or `None` for the default graph
  abbrev pub eval : Option Term → Algebra → List (Solution Term)
  eval g (Pattern labels P) = bgp term_eq w labels P (graph D g)
  eval g (Join A B) = join term_eq (eval g A) (eval g B)
  eval g (LeftJoin A B e) = left_join term_eq (holds e) (eval g A) (eval g B)
  eval g (Union A B) = eval g A ++ eval g B
  eval g (Minus A B) = minus term_eq (eval g A) (eval g B)
  eval g (Graph i A) = in_graphs i (λ h. eval h A)
  eval g (Filter e A) = filter (holds e) (eval g A)
  eval g (Extend v e A) = extend v (val e) (eval g A)
  eval g (Project vs A) = project vs (eval g A)
  eval g (Distinct A) = distinct term_eq (eval g A)
  eval g (Table vs rows) = table w vs rows
