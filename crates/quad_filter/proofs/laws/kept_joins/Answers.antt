use Rattle.quad_filter.proofs.KeptLaws.{kept_joins}
use Rattle.quad_filter.proofs.laws.kept_joins.Goals as goal

pub returns : goal.returns
returns c = record { joined = kept_joins }
