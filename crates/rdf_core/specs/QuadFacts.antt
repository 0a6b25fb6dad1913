-- The terms that each position of a quad allows (RDF 1.1 Concepts, sections 3.1 and 4). A subject
-- or graph name is an IRI or a blank node. A predicate is an IRI.
use Rattle.std.specs.Prelude.{Bool, true, false, Option, Some, None}
use Rattle.rdf_core.specs.declared.term.Term.{Term}
use Rattle.rdf_core.specs.declared.term.Term.TheVariants.{Blank, Iri, Literal}

-- allowed as a subject or as a graph name
abbrev pub is_node : Term → Bool
is_node (Blank label) = true
is_node (Iri text) = true
is_node (Literal lexical datatype tag) = false

-- allowed as a predicate
abbrev pub is_iri : Term → Bool
is_iri (Blank label) = false
is_iri (Iri text) = true
is_iri (Literal lexical datatype tag) = false

-- the default graph has no name
abbrev pub is_graph_name : Option Term → Bool
is_graph_name None = true
is_graph_name (Some name) = is_node name
