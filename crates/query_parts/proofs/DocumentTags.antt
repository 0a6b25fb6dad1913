-- In the statements of a document each literal with a language tag has the right datatype.
use Rattle.std.proofs.Common.{ℕ, List, [], ◌∷◌, Option, None, Some, option_to_list, refl, sym, subst}
use Rattle.rdf_core.specs.declared.term.Term.{Term}
use Rattle.rdf_core.specs.QuadParts.{QuadParts}
use Rattle.nquads_core.specs.Grammar.{GraphLabel, Object, OptionalStatement, Predicate, Subject, iri_subject, blank_subject, iri_predicate, iri_object, blank_object, plain_object, typed_object, tagged_object, no_graph, iri_graph, blank_graph}
use Rattle.nquads_core.specs.Pieces.{HaveStatements}
use Rattle.nquads_core.specs.Terminal.{Terminal}
use Rattle.algebra_model.specs.Renaming.{Each}
use Rattle.algebra_model.proofs.RangeLaws.{Each-append}
use Rattle.result_merge.specs.Tags.{HasTagType}
use Rattle.query_parts.proofs.QueryTags.{IsTagged}

-- each term of the quad has the right datatype if it has a language tag
abbrev pub IsTaggedQuad : QuadParts → Type 0
IsTaggedQuad q = IsTagged q.s × IsTagged q.p × IsTagged q.o × HasTagType q.g

subject_tagged : (ks : List Terminal) (t : Term) → Subject ks t → IsTagged t
subject_tagged ks t iri_subject = tt
subject_tagged ks t blank_subject = tt

predicate_tagged : (ks : List Terminal) (t : Term) → Predicate ks t → IsTagged t
predicate_tagged ks t iri_predicate = tt

object_tagged : (ks : List Terminal) (t : Term) → Object ks t → IsTagged t
object_tagged ks t iri_object = tt
object_tagged ks t blank_object = tt
object_tagged ks t plain_object = tt
object_tagged ks t typed_object = tt
object_tagged ks t tagged_object = refl

graph_tagged : (ks : List Terminal) (g : Option Term) → GraphLabel ks g → HasTagType g
graph_tagged ks g no_graph = tt
graph_tagged ks g iri_graph = tt
graph_tagged ks g blank_graph = tt

statement_tagged : (ks : List Terminal) (q : Option QuadParts) → OptionalStatement ks q → Each IsTaggedQuad (option_to_list q)
statement_tagged ks None s = tt
statement_tagged ks (Some q) s =
    ((subject_tagged s.s q.s s.subject, predicate_tagged s.p q.p s.predicate, object_tagged s.o q.o s.object, graph_tagged s.g q.g s.graph), tt)

pub statements_tagged : (lines : List (List ℕ)) (quads : List QuadParts) → HaveStatements lines quads → Each IsTaggedQuad quads
statements_tagged [] quads h = subst (Each IsTaggedQuad) (sym h) tt
statements_tagged (line ∷ lines) quads h =
    subst (Each IsTaggedQuad) (sym h.3)
    (Each-append IsTaggedQuad (option_to_list h.0) h.1 (statement_tagged h.2.terminals h.0 h.2.derives) (statements_tagged lines h.1 h.4))
