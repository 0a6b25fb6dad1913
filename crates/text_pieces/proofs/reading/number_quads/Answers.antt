use Rattle.std.proofs.Common.{◌≡◌, map, ap, sym, subst, ◌∙◌}
use Rattle.std.specs.List.{All}
use Rattle.rdf_core.specs.QuadParts.{parts_of}
use Rattle.nquads_core.specs.Laws.{IsNQuadsTerm}
use Rattle.dict_core.specs.Appearances.{first_appearances, terms_of}
use Rattle.dict_core.specs.Numbered.{IsNumbered}
use Rattle.text_pieces.specs.Pieces.{renumbered_quad}
use Rattle.text_pieces.specs.Slices.{AreQuadsOf, AreTermNumbers}
use Rattle.text_pieces.proofs.AddingLaws.{occur_first, quads_of_terms}
use Rattle.text_pieces.proofs.reading.number_quads.Goals as goal

pub number_terms-requires-clause-occur : goal.number_terms-requires-clause-occur
number_terms-requires-clause-occur c =
    let quads = map parts_of c.args.piece.quads.items in
    let own : c.dict.result.now ≡ first_appearances (terms_of quads) = c.dict.ensures.terms ∙ ap (λ l. first_appearances (terms_of l)) c.in_ok-local.ensures.quads in
    subst (All IsNQuadsTerm) (sym own) (occur_first (terms_of quads) c.requires.occur)

pub returns : goal.returns
returns c =
    let quads = map parts_of c.args.piece.quads.items in
    let own : c.dict.result.now ≡ first_appearances (terms_of quads) = c.dict.ensures.terms ∙ ap (λ l. first_appearances (terms_of l)) c.in_ok-local.ensures.quads in
    let numbers = c.in_ok-numbers.numbers.items in record {
      numbered = subst (λ d. AreQuadsOf c.args.dict.now.texts d.texts quads c.in_ok-quads.quads.items) (sym c.in_ok-hashed.ensures.same)
          (quads_of_terms c.args.dict.now.texts c.number_terms.new.new.texts quads numbers c.quads.result.now c.in_ok-quads.quads.items
          (subst (λ l. AreTermNumbers c.args.dict.now.texts c.number_terms.new.new.texts l numbers) own c.in_ok-numbers.ensures.numbers)
          (subst (λ l. IsNumbered l (first_appearances (terms_of l)) c.quads.result.now) c.in_ok-local.ensures.quads c.quads.ensures.numbered)
          (c.in_ok-quads.ensures.value ∙ ap (λ n. map (renumbered_quad 0 n) c.quads.result.now) c.as_slice.ensures.value));
    }
