-- What the functions that make the filter of a plan promise each other. Only private clauses use these definitions.
use Rattle.std.specs.Prelude.{◌≡◌, ℕ, Bool, true, List, ◌++◌, Option, Some, All, Vec, map}
use Rattle.std.specs.List.{list_any}
use Rattle.std.specs.Option.{option_map}
use Rattle.std.specs.declared.alloc.Global.{Global}
use Rattle.rdf_core.specs.declared.term.Term.{Term}
use Rattle.rdf_core.specs.QuadParts.{QuadParts}
use Rattle.rdf_core.specs.Serialization.{serialization}
use Rattle.quad_filter.specs.Filter.{has_shape, is_wanted, is_wanted_graph}
use Rattle.quad_filter.specs.declared.filter.Shape.{Shape}
use Rattle.quad_filter.specs.declared.filter.Wanted.{Wanted}
use Rattle.quad_filter.specs.declared.filter.WantedGraph.{WantedGraph}
use Rattle.algebra_model.specs.Algebra.{GraphName}
use Rattle.sparql_algebra.specs.AlgebraOf.{triple_pattern_of}
use Rattle.sparql_algebra.specs.declared.operator.TriplePattern.{TriplePattern}
use Rattle.needed_quads.specs.Needed.{may_match, may_name}
use Rattle.needed_quads.specs.Restriction.{Restriction, allows, only_cells}
use Rattle.needed_quads.specs.declared.restricted.Restricted.{Restricted}

-- R allows only what X allows
abbrev pub AllowsOnly : List Restriction → List Restriction → Type 0
AllowsOnly X R = (v : ℕ) (t : Term) → allows R v t ≡ true → allows X v t ≡ true

-- each term that R allows for the variable is wanted
abbrev pub Covers : List Restriction → Restricted → Type 0
Covers R x = (t : Term) → allows R x.variable t ≡ true → is_wanted x.terms t ≡ true

-- Variables are added that X restricts, after those that were known.
pub record AreRestricted (X : List Restriction) (old new : List Restricted) : Type 0 where
  pub more : List Restricted
  pub begins : new ≡ old ++ more
  pub covered : (R : List Restriction) → AllowsOnly X R → All (Covers R) old → All (Covers R) new

-- each term that may be there, by restrictions of what is known, is wanted
abbrev pub AreWanted : List Restricted → (List Restriction → Term → Bool) → Wanted → Type 0
AreWanted known may wanted = (R : List Restriction) → All (Covers R) known → (t : Term) → may R t ≡ true → is_wanted wanted t ≡ true

-- the same of the names of graphs
abbrev pub AreNamesWanted : List Restricted → GraphName → WantedGraph → Type 0
AreNamesWanted known i graph = (R : List Restriction) → All (Covers R) known → (g : Option Term) → may_name R i g ≡ true → is_wanted_graph graph g ≡ true

-- the texts are the N-Quads forms of the terms of a table with one variable
abbrev pub AreForms : List (List (Option Term)) → List (Vec ℕ Global) → Type 0
AreForms rows forms = option_map (map serialization) (only_cells rows) ≡ Some (map (λ form. form.items) forms)

-- the quad has one of the shapes
abbrev pub are_some : List Shape → QuadParts → Bool
are_some shapes q = list_any (has_shape q) shapes

-- each quad of these graphs has one of the shapes
abbrev pub HasGraph : WantedGraph → List Shape → Type 0
HasGraph graph shapes = (q : QuadParts) → is_wanted_graph graph q.g ≡ true → are_some shapes q ≡ true

-- each quad of these graphs that the triple pattern can match has the shape
abbrev pub IsShapeOf : WantedGraph → List Restricted → TriplePattern → Shape → Type 0
IsShapeOf graph known t shape = (R : List Restriction) → All (Covers R) known → (q : QuadParts) → is_wanted_graph graph q.g ≡ true → may_match R q (triple_pattern_of t) ≡ true → has_shape q shape ≡ true

-- Shapes are added so that each needed quad has one. `needs` is whether a quad is needed for solutions that fit
-- restrictions, and whether it is in the active graph.
pub record AreAdded (needs : QuadParts → Bool → List Restriction → Bool) (graph : WantedGraph) (known : List Restricted) (old new : List Shape) : Type 0 where
  pub kept : (q : QuadParts) → are_some old q ≡ true → are_some new q ≡ true
  pub needed : (R : List Restriction) → All (Covers R) known → (q : QuadParts) (here : Bool) → (here ≡ true → is_wanted_graph graph q.g ≡ true) → needs q here R ≡ true → are_some new q ≡ true
