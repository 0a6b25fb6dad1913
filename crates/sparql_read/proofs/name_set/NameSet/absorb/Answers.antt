use Rattle.std.proofs.lemmas.Result.{on_ok_weaker}
use Rattle.sparql_read.proofs.SetLaws.{joined}
use Rattle.sparql_read.proofs.name_set.NameSet.absorb.Goals as goal

pub returns : goal.returns
returns c = record { names = on_ok_weaker c.append.result (λ h. joined _ _ _ c.self.view_is c.other.view_is h.0) c.append.ensures.inserts_all }
