use Rattle.dict_core.proofs.MergingSteps.{absorbed_keys, absorbed_numbers}
use Rattle.dict_core.proofs.dict.Dict.absorb.Goals as goal

pub invariant_of-self : goal.invariant_of-self
invariant_of-self c = c.insert_terms.ensures.distinct

pub returns-clause-terms : goal.returns-clause-terms
returns-clause-terms c = absorbed_keys _ _ _ _ _ _ c.self.view_is c.into_terms.ensures.terms c.self.invariant c.insert_terms.ensures.keys

pub returns-clause-numbers : goal.returns-clause-numbers
returns-clause-numbers c = absorbed_numbers _ _ _ _ _ _ c.self.view_is c.into_terms.ensures.terms c.insert_terms.ensures.keys c.insert_terms.ensures.places
