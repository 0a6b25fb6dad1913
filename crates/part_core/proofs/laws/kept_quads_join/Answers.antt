use Rattle.part_core.proofs.NeededLaws.{kept_are_document, kept_of_blocks_join}
use Rattle.part_core.proofs.laws.kept_quads_join.Goals as goal

pub returns : goal.returns
returns c = record { document = kept_are_document; blocks = kept_of_blocks_join }
