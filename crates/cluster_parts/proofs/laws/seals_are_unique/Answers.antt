use Rattle.cluster_parts.proofs.SealLaws.{fronts_are_unique, lists_are_unique, seals_are_unique}
use Rattle.cluster_parts.proofs.laws.seals_are_unique.Goals as goal

pub returns : goal.returns
returns c = record { texts = seals_are_unique; fronts = fronts_are_unique; lists = lists_are_unique }
