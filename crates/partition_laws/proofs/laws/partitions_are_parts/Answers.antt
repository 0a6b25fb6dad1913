use Rattle.partition_laws.proofs.PartitionLaws.{graphs_are_parts, names_are_parts, subjects_are_parts}
use Rattle.partition_laws.proofs.laws.partitions_are_parts.Goals as goal

pub returns : goal.returns
returns c = record { subjects = subjects_are_parts; graphs = graphs_are_parts; names = names_are_parts }
