use Rattle.sparql_read.proofs.SetLaws.{added}
use Rattle.sparql_read.proofs.name_set.NameSet.add.Goals as goal

pub returns : goal.returns
returns c = record { names = added _ _ c.args.name c.self.view_is c.in_ok-insert.ensures.updates.0 }
