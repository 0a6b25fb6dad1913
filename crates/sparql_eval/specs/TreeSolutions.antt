-- The solutions of a tree over an index, read through a dictionary. Only private clauses use these
-- definitions.
use Rattle.std.specs.Prelude.{◌≡◌, ℕ, ◌<◌, List, Option, Some, Contains, length, map, flat_map, slice_get}
use Rattle.std.specs.List.{IsDistinct}
use Rattle.std.specs.Option.{option_map}
use Rattle.rdf_core.specs.declared.term.Term.{Term}
use Rattle.algebra_model.specs.Algebra.{Algebra, GraphName, each_graph}
use Rattle.rdf_core.specs.Equality.{term_eq}
use Rattle.algebra_model.specs.Dataset.{names}
use Rattle.algebra_model.specs.Eval.{eval, in_graphs, named}
use Rattle.algebra_model.specs.Operators.{join}
use Rattle.algebra_model.specs.Solution.{Solution}
use Rattle.dict_core.specs.Dict.{term_at}
use Rattle.dict_core.specs.NumQuad.{quads_at}
use Rattle.dict_core.specs.declared.num_quad.NumQuad.{NumQuad}
use Rattle.row_core.specs.RowList.{RowList}
use Rattle.sparql_algebra.specs.AlgebraOf.{algebra_of}
use Rattle.sparql_algebra.specs.declared.operator.Operator.{Operator}
use Rattle.sparql_eval.specs.Computed.{InSomeGraph, IsComputed, TakesOnly}
use Rattle.sparql_eval.specs.Evaluated.{IsEvaluated}

-- with the graph of that number active
abbrev pub tree_solutions : List Term → List NumQuad → ℕ → Option ℕ → Operator → List (Solution Term)
tree_solutions terms index w active tree = eval w (quads_at terms index) (option_map (term_at terms) active) (algebra_of tree)

-- in the named graphs of a GRAPH
abbrev pub graph_solutions : List Term → List NumQuad → ℕ → GraphName → Operator → List (Solution Term)
graph_solutions terms index w name tree = in_graphs w (quads_at terms index) name (λ h. eval w (quads_at terms index) h (algebra_of tree))

-- the terms that an expression computes, with the graph of that number active
abbrev pub Needed : List Term → List NumQuad → ℕ → Option ℕ → Algebra → Term → Type 0
Needed terms index w active A = IsComputed w (quads_at terms index) (option_map (term_at terms) active) A

-- in the named graphs of a GRAPH
abbrev pub NeededIn : List Term → List NumQuad → ℕ → GraphName → Algebra → Term → Type 0
NeededIn terms index w name A t = InSomeGraph (quads_at terms index) name (λ h. IsComputed w (quads_at terms index) h A t)

-- each of the numbers is that of the name of a graph, and no name occurs twice
abbrev pub AreGraphs : List Term → List NumQuad → List ℕ → Type 0
AreGraphs terms index graphs =
    IsDistinct term_eq (map (term_at terms) graphs)
    × ((k n : ℕ) → slice_get graphs k ≡ Some n → (n < length terms) × Contains (names (quads_at terms index)) (term_at terms n))

-- the solutions in the graphs of these numbers, each joined with the name of its graph
abbrev pub solutions_in : List Term → List NumQuad → ℕ → ℕ → List ℕ → Algebra → List (Solution Term)
solutions_in terms index w v graphs A =
    flat_map (λ i. join term_eq (eval w (quads_at terms index) (Some i) A) (named w v i)) (map (term_at terms) graphs)

-- the result of a tree in the graphs of these numbers
abbrev pub IsEvaluatedIn : List Term → List NumQuad → ℕ → ℕ → List ℕ → Algebra → RowList → List Term → Type 0
IsEvaluatedIn terms index w v graphs A made terms' = IsEvaluated terms w (solutions_in terms index w v graphs A) made terms'

-- the terms that are added to the dictionary are computed in named graphs
abbrev pub TakesIn : List Term → List NumQuad → ℕ → ℕ → Algebra → List Term → Type 0
TakesIn terms index w v A terms' = TakesOnly (NeededIn terms index w (each_graph v) A) terms terms'
