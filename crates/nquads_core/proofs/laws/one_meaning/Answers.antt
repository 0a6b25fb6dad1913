use Rattle.nquads_core.proofs.Meaning.{one_meaning}
use Rattle.nquads_core.proofs.laws.one_meaning.Goals as goal

pub returns : goal.returns
returns c = record { law = one_meaning }
