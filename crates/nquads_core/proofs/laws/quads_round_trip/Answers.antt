use Rattle.nquads_core.proofs.Again.{lines_round_trip, quads_round_trip}
use Rattle.nquads_core.proofs.laws.quads_round_trip.Goals as goal

pub returns : goal.returns
returns c = record { quads = quads_round_trip; lines = lines_round_trip }
