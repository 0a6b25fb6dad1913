use Rattle.std.proofs.Common.{◌∙◌, ap, set}
use Rattle.dict_core.specs.declared.num_quad.NumQuad.{NumQuad}
use Rattle.text_pieces.specs.Pieces.{renumbered_quad}
use Rattle.text_pieces.proofs.RenumberSteps.{upto-all, upto-more}
use Rattle.text_pieces.proofs.renumbering.renumber.Goals as goal

pub loop-quad-preserved : goal.loop-quad-preserved
loop-quad-preserved c =
    ap (λ (q : NumQuad). set c.loop-quad.quads c.loop-quad.quad-index q) c.renumbered_quad.ensures.value
    ∙ upto-more (renumbered_quad c.args.base c.args.numbers.now) c.loop-quad.quad-index c.args.quads.now c.loop-quad.quads _ c.loop-quad-test.true c.loop-quad.invariant

pub returns : goal.returns
returns c = record { renumbered = c.loop-quad.invariant ∙ upto-all (renumbered_quad c.args.base c.args.numbers.now) c.args.quads.now c.loop-quad.quad-index c.loop-quad-test.false }
