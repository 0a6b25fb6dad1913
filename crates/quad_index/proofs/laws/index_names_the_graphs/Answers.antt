use Rattle.quad_index.proofs.ReadingLaws.{index_names}
use Rattle.quad_index.proofs.laws.index_names_the_graphs.Goals as goal

pub returns : goal.returns
returns c = record { law = index_names }
