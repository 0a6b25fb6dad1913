use Rattle.result_merge.proofs.UniqueLaws.{results_are_unique}
use Rattle.result_merge.proofs.laws.results_are_unique.Goals as goal

pub returns : goal.returns
returns c = record { law = results_are_unique }
