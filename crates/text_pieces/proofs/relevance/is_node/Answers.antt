use Rattle.std.proofs.Common.{◌≡◌, true, get_or, ap, subst, ◌∙◌}
use Rattle.rdf_core.specs.QuadFacts.{is_node}
use Rattle.text_pieces.specs.Relevance.{IsNodeForm}
use Rattle.text_pieces.proofs.NamingLaws.{node_by_first}
use Rattle.text_pieces.proofs.RelevanceSteps.{form_of_kind}
use Rattle.text_pieces.proofs.relevance.is_node.Goals as goal

pub returns-then-is_same : goal.returns-then-is_same
returns-then-is_same c = record { node = λ _. subst IsNodeForm (c.is_same.ensures.same c.if-is_same.true) (rw c.in-Some.is at c.requires.before) }

pub returns : goal.returns
returns c = record {
  node = form_of_kind (λ t. is_node t ≡ true) c.args.raw.now c.is_form.result
      (λ t form. node_by_first t (λ z. c.if-first_byte-eq34.false (c.first_byte.ensures.value ∙ ap (λ l. get_or l 0 0) c.as_bytes.ensures.value ∙ ap (λ l. get_or l 0 0) form ∙ z))) c.is_form.ensures.same;
}
