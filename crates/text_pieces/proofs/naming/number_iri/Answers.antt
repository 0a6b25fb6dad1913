use Rattle.std.proofs.Common.{◌≡◌, true, get_or, ap, sym, ◌∙◌}
use Rattle.rdf_core.specs.QuadFacts.{is_iri}
use Rattle.text_pieces.proofs.NamingLaws.{iri_by_first, number_of_kind}
use Rattle.text_pieces.proofs.naming.number_iri.Goals as goal

pub returns-clause-number : goal.returns-clause-number
returns-clause-number c =
    number_of_kind (λ t. is_iri t ≡ true) c.args.dict.now.texts c.args.new.now.texts c.number_slice.new.new.texts c.args.raw.now c.text_at.result.now c.in_ok-n.n
    c.in_ok-n.ensures.number c.text_at.ensures.value (λ t form. iri_by_first t (ap (λ l. get_or l 0 0) (sym form) ∙ sym c.first_byte.ensures.value ∙ c.if-first_byte-ne60.false))
