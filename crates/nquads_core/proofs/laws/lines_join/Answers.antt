use Rattle.nquads_core.proofs.LineEnds.{lines_join}
use Rattle.nquads_core.proofs.laws.lines_join.Goals as goal

pub returns : goal.returns
returns c = record { law = lines_join }
