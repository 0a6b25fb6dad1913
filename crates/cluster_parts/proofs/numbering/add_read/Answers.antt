use Rattle.std.proofs.Common.{List, ◌++◌, ap, ◌∙◌, subst, sym}
use Rattle.dict_core.specs.declared.num_quad.NumQuad.{NumQuad}
use Rattle.text_pieces.specs.Forms.{AreNumberedBy}
use Rattle.cluster_parts.proofs.numbering.add_read.Goals as goal

pub returns-clause-numbered : goal.returns-clause-numbered
returns-clause-numbered c = λ earlier done quads grown piece before.
    let old = c.args.so_far.now.quads.items in
    subst (AreNumberedBy (done ++ quads) c.add_piece.new.dict.texts) (sym (c.in_ok-extend_from_slice.ensures.items ∙ ap (λ (qs : List NumQuad). old ++ qs) c.as_slice.ensures.value))
    (c.in_ok-added.ensures.numbered earlier grown done quads piece old before)
