use Rattle.sparql_eval.proofs.JoinSteps.{passes_known}
use Rattle.sparql_eval.proofs.joins.ConditionRowTest.keeps.Goals as goal

pub invariant_of-row : goal.invariant_of-row
invariant_of-row c = record { known = passes_known c.args.self.now.dict.now c.args.row.now c.requires.known }
