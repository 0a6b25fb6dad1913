use Rattle.quad_index.proofs.PartLaws.{parts_count}
use Rattle.quad_index.proofs.laws.parts_count_the_quads.Goals as goal

pub returns : goal.returns
returns c = record { law = parts_count }
