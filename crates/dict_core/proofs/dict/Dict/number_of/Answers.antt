use Rattle.std.proofs.Common.{rules}
use Rattle.dict_core.proofs.DictLaws.{number_is, not_there}
use Rattle.dict_core.proofs.dict.Dict.number_of.Goals as goal

pub returns-in-Some : goal.returns-in-Some
returns-in-Some c = search (rules, number_is)

pub returns-in-None : goal.returns-in-None
returns-in-None c = search (rules, not_there)
