use Rattle.piece_board.proofs.SeatLaws.{rule_claims}
use Rattle.piece_board.proofs.laws.the_rule_is_the_claims.Goals as goal

pub returns : goal.returns
returns c = record { claims = rule_claims }
