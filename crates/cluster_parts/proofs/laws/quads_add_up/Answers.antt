use Rattle.cluster_parts.proofs.QuadLaws.{quads_add_up}
use Rattle.cluster_parts.proofs.laws.quads_add_up.Goals as goal

pub returns : goal.returns
returns c = record { law = quads_add_up }
