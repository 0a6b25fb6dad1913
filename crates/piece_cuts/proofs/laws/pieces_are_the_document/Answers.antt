use Rattle.piece_cuts.proofs.PieceLaws.{are-pieces}
use Rattle.piece_cuts.proofs.laws.pieces_are_the_document.Goals as goal

pub returns : goal.returns
returns c = record { law = are-pieces }
