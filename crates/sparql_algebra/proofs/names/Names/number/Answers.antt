use Rattle.std.proofs.Common.{rules}
use Rattle.sparql_algebra.proofs.NameSteps.{placed_none}
use Rattle.sparql_algebra.proofs.names.Names.number.Goals as goal

pub returns-in-None : goal.returns-in-None
returns-in-None c = search (rules, placed_none)
