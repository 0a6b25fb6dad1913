use Rattle.dict_core.proofs.NumberingLaws.{absorbed}
use Rattle.dict_core.proofs.laws.absorbing_keeps_the_numbering.Goals as goal

pub returns : goal.returns
returns c = record { law = absorbed }
