use Rattle.std.proofs.Common.{rules}
use Rattle.dict_core.proofs.DictLaws.{insert_known, goes_last, lacks}
use Rattle.dict_core.proofs.InsertLaws.{get-inserted}
use Rattle.dict_core.proofs.dict.Dict.intern.Goals as goal
use Rattle.dict_core.proofs.dict.Dict.intern.Goals.{in-Ok, in-Err}

pub invariant_of-self : goal.invariant_of-self
invariant_of-self c = c.insert.ensures.distinct

pub returns-clause-known : goal.returns-clause-known
returns-clause-known c = search (rules, insert_known)

pub returns-clause-number : goal.returns-clause-number
returns-clause-number c = elim c.match-insert.branch [ in-Ok w ↦ search (rules, get-inserted) | in-Err w ↦ search rules ]

pub returns-clause-new : goal.returns-clause-new
returns-clause-new c = elim c.match-insert.branch [ in-Ok w ↦ search (rules, goes_last) | in-Err w ↦ search rules ]

pub returns-clause-not_in_dict : goal.returns-clause-not_in_dict
returns-clause-not_in_dict c = elim c.match-insert.branch [ in-Ok w ↦ search rules | in-Err w ↦ search (rules, lacks) ]
