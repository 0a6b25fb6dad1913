use Rattle.std.proofs.Common.{List, ◌++◌, map, ap, ◌∙◌}
use Rattle.dict_core.specs.declared.num_quad.NumQuad.{NumQuad}
use Rattle.text_pieces.specs.Pieces.{renumbered_quad}
use Rattle.text_pieces.proofs.AddingLaws.{piece_added}
use Rattle.text_pieces.proofs.adding.add_piece.Goals as goal

pub returns-clause-numbered : goal.returns-clause-numbered
returns-clause-numbered c = λ earlier since done quads read before h.
    let piece = c.args.piece in
    piece_added earlier c.args.dict.now.texts c.add_all.new.dict.texts done quads piece c.in_ok-numbers.numbers.items before _ since read h c.in_ok-numbers.ensures.added
    (ap (λ (qs : List NumQuad). before ++ qs)
    (c.renumbered_list.ensures.value ∙ (λ i. map (renumbered_quad piece.base (c.as_slice.ensures.value i)) piece.quads.items)))
