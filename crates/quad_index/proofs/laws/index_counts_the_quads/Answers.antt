use Rattle.quad_index.proofs.ReadingLaws.{index_counts}
use Rattle.quad_index.proofs.laws.index_counts_the_quads.Goals as goal

pub returns : goal.returns
returns c = record { law = index_counts }
