use Rattle.std.proofs.Common.{◌≡◌}
use Rattle.text_pieces.specs.Pieces.{renumbered_quad}
use Rattle.text_pieces.proofs.RenumberSteps.{upto}
use Rattle.text_pieces.proofs.renumbering.renumber.Given as goal

abbrev pub invariant-loop-quad : goal.invariant-loop-quad
invariant-loop-quad l = l.quads ≡ upto (renumbered_quad l.base l.numbers) l.quad-index l.initial.quads
