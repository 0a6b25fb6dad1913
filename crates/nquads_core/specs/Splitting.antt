-- The statements of a text, each given by the slices of its terms.
use Rattle.std.specs.Prelude.{◌≡◌, ℕ, true, List, [], ◌∷◌, Option, Some, None, option_copied}
use Rattle.rdf_core.specs.declared.term.Term.{Term}
use Rattle.rdf_core.specs.QuadParts.{QuadParts}
use Rattle.rdf_core.specs.QuadFacts.{is_node, is_iri, is_graph_name}
use Rattle.nquads_core.specs.declared.slices.RawStatement.{RawStatement}
use Rattle.nquads_core.specs.Slices.{Denotes}
use Rattle.nquads_core.specs.Pieces.{HaveStatements}

-- The slice of the graph label denotes the graph name; no slice, no graph name.
abbrev pub DenotesGraph : Option (List ℕ) → Option Term → Type 0
DenotesGraph None None = Unit {0}
DenotesGraph (Some raw) (Some name) = Denotes raw name
DenotesGraph None (Some name) = ⊥
DenotesGraph (Some raw) None = ⊥

-- Each slice denotes the term of its place, and each term is allowed there: a subject and a graph name
-- are IRIs or blank nodes, a predicate is an IRI.
pub record DenotesQuad (raw : RawStatement) (q : QuadParts) : Type 0 where
  pub subject : Denotes raw.subject.now q.s
  pub predicate : Denotes raw.predicate.now q.p
  pub object : Denotes raw.object.now q.o
  pub graph : DenotesGraph (option_copied raw.graph) q.g
  pub node : is_node q.s ≡ true
  pub iri : is_iri q.p ≡ true
  pub graph_name : is_graph_name q.g ≡ true

-- The statements denote these quads, one each, in order.
abbrev pub DenoteAll : List RawStatement → List QuadParts → Type 0
DenoteAll [] quads = quads ≡ []
DenoteAll (raw ∷ raws) quads = (q : QuadParts) × (more : List QuadParts) × (quads ≡ q ∷ more) × DenotesQuad raw q × DenoteAll raws more

-- The statements are those of these lines: the lines hold the quads that the statements denote. Of slices that
-- denote no term nothing is said.
abbrev pub AreStatements : List (List ℕ) → List RawStatement → Type 0
AreStatements lines raws = (quads : List QuadParts) → DenoteAll raws quads → HaveStatements lines quads
