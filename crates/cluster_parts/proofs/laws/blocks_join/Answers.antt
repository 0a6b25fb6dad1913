use Rattle.cluster_parts.proofs.DocumentLaws.{blocks_join}
use Rattle.cluster_parts.proofs.laws.blocks_join.Goals as goal

pub returns : goal.returns
returns c = record { law = blocks_join }
