use Rattle.piece_board.proofs.SeatLaws.{all_claims}
use Rattle.piece_board.proofs.laws.every_run_keeps_its_claims.Goals as goal

pub returns : goal.returns
returns c = record { claims = all_claims }
