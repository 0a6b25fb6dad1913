use Rattle.partition_laws.proofs.ChosenLaws.{chosen_quads_join}
use Rattle.partition_laws.proofs.laws.chosen_quads_join.Goals as goal

pub returns : goal.returns
returns c = record { law = chosen_quads_join }
