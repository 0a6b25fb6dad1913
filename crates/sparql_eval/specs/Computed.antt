-- The terms that an evaluation adds to a dictionary. They are those that occur in VALUES, and the
-- values that Extend computes (SPARQL 1.1 Query Language, section 18.5). This is a guarantee of
-- this project.
use Rattle.std.specs.Prelude.{◌≡◌, ◌⊎◌, ℕ, true, List, Option, Some, map, length, take, Contains}
use Rattle.std.specs.List.{flat_map, list_any}
use Rattle.rdf_core.specs.declared.term.Term.{Term}
use Rattle.rdf_core.specs.QuadParts.{QuadParts}
use Rattle.rdf_core.specs.Equality.{term_eq}
use Rattle.algebra_model.specs.Algebra.{Algebra, Pattern, Join, LeftJoin, Union, Minus, Graph, Filter, Extend, Project, Distinct, Table, GraphName, each_graph, one_graph}
use Rattle.algebra_model.specs.Dataset.{names}
use Rattle.algebra_model.specs.Eval.{eval}
use Rattle.algebra_model.specs.Expression.{val}
use Rattle.algebra_model.specs.Solution.{Solution}

-- each of the later terms is an earlier one, or is allowed
abbrev pub TakesOnly : (Term → Type 0) → List Term → List Term → Type 0
TakesOnly Needed terms terms' = (t : Term) → Contains terms' t → Contains terms t ⊎ Needed t

-- the term is in a cell of the table, below one of its variables
abbrev pub IsCell : List ℕ → List (List (Option Term)) → Term → Type 0
IsCell vs rows t = Contains (flat_map (take (length vs)) rows) (Some t)

-- the term is the value for one of the solutions
abbrev pub IsValue : (Solution Term → Option Term) → List (Solution Term) → Term → Type 0
IsValue value A t = Contains (map value A) (Some t)

module _ (D : List QuadParts) where
  -- P is true with one of the graphs of a GRAPH active
  abbrev pub InSomeGraph : GraphName → (Option Term → Type 0) → Type 0
  InSomeGraph (each_graph v) P = (i : Term) × (Contains (names D) i × P (Some i))
  InSomeGraph (one_graph i) P = (list_any (term_eq i) (names D) ≡ true) × P (Some i)

-- the term occurs in VALUES somewhere in the expression, or an Extend somewhere in it computes it;
-- g is the name of the active graph, or `None` for the default graph
module _ (w : ℕ) (D : List QuadParts) where
  abbrev pub IsComputed : Option Term → Algebra → Term → Type 0
  IsComputed g (Pattern labels P) t = ⊥
  IsComputed g (Join A B) t = IsComputed g A t ⊎ IsComputed g B t
  IsComputed g (LeftJoin A B e) t = IsComputed g A t ⊎ IsComputed g B t
  IsComputed g (Union A B) t = IsComputed g A t ⊎ IsComputed g B t
  IsComputed g (Minus A B) t = IsComputed g A t ⊎ IsComputed g B t
  IsComputed g (Graph i A) t = InSomeGraph D i (λ h. IsComputed h A t)
  IsComputed g (Filter e A) t = IsComputed g A t
  IsComputed g (Extend v e A) t = IsComputed g A t ⊎ IsValue (val e) (eval w D g A) t
  IsComputed g (Project vs A) t = IsComputed g A t
  IsComputed g (Distinct A) t = IsComputed g A t
  IsComputed g (Table vs rows) t = IsCell vs rows t
