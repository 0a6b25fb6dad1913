use Rattle.piece_cuts.proofs.PieceLaws.{first-then}
use Rattle.piece_cuts.proofs.laws.first_piece_then_the_rest.Goals as goal

pub returns : goal.returns
returns c = record { law = first-then }
