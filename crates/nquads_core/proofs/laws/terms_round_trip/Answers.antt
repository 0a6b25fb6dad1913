use Rattle.nquads_core.proofs.Again.{terms_round_trip}
use Rattle.nquads_core.proofs.laws.terms_round_trip.Goals as goal

pub returns : goal.returns
returns c = record { law = terms_round_trip }
