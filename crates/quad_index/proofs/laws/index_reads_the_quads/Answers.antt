use Rattle.quad_index.proofs.ReadingLaws.{index_reads}
use Rattle.quad_index.proofs.laws.index_reads_the_quads.Goals as goal

pub returns : goal.returns
returns c = record { law = index_reads }
