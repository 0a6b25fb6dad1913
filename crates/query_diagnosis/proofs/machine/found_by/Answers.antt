use Rattle.query_diagnosis.proofs.PrefixLaws.{first_place}
use Rattle.query_diagnosis.proofs.machine.found_by.Goals as goal

pub returns-else-branch-clause-beginning : goal.returns-else-branch-clause-beginning
returns-else-branch-clause-beginning c = first_place
