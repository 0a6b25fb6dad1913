use Rattle.std.proofs.Common.{◌≡◌, true, get_or, ap, sym, ◌∙◌}
use Rattle.rdf_core.specs.QuadFacts.{is_iri}
use Rattle.text_pieces.proofs.NamingLaws.{iri_by_first}
use Rattle.text_pieces.proofs.RelevanceSteps.{form_of_kind}
use Rattle.text_pieces.proofs.relevance.is_iri.Goals as goal

pub returns : goal.returns
returns c = record {
  iri = form_of_kind (λ t. is_iri t ≡ true) c.args.raw.now c.is_form.result
      (λ t form. iri_by_first t (ap (λ l. get_or l 0 0) (sym form) ∙ ap (λ l. get_or l 0 0) (sym c.as_bytes.ensures.value) ∙ sym c.first_byte.ensures.value ∙ c.if-first_byte-ne60.false)) c.is_form.ensures.same;
}
