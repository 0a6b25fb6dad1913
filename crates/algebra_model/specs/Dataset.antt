-- Datasets (RDF 1.1 Concepts, section 4; SPARQL 1.1 Query Language, section 13.1): a list of quads,
-- read as a set. The order of the quads and repeats do not change the result of a query (law
-- `a_dataset_is_a_set`).
use Rattle.std.specs.Prelude.{Option, List, map, filter, filter_map}
use Rattle.std.specs.Option.{option_eq}
use Rattle.rdf_core.specs.declared.term.Term.{Term}
use Rattle.rdf_core.specs.QuadParts.{QuadParts}
use Rattle.rdf_core.specs.Equality.{term_eq}
use Rattle.algebra_model.specs.Bag.{without_repeats}
use Rattle.algebra_model.specs.Bgp.{Triple}

-- the quad without its graph name
abbrev pub triple_of : QuadParts → Triple Term
triple_of q = record { s = q.s; p = q.p; o = q.o }

-- the triples of the graph of this name, or of the default graph if there is no name
abbrev pub graph : List QuadParts → Option Term → List (Triple Term)
graph D g = map triple_of (filter (λ q. option_eq term_eq q.g g) D)

-- the names of the graphs, each once
abbrev pub names : List QuadParts → List Term
names D = without_repeats term_eq (filter_map (λ q. q.g) D)
