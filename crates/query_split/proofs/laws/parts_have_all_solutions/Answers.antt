use Rattle.query_split.proofs.SplitLaws.{parts_have_all}
use Rattle.query_split.proofs.laws.parts_have_all_solutions.Goals as goal

pub returns : goal.returns
returns c = record { law = parts_have_all }
