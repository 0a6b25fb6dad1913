use Rattle.std.proofs.Common.{sym, subst, ap}
use Rattle.std.proofs.lemmas.Map.Made.{AllPairs-from_IsDistinct}
use Rattle.dict_core.specs.HashedTerms.{AreHashed}
use Rattle.dict_core.proofs.HashedLaws.{distinct_terms, hashed_decides}
use Rattle.dict_core.proofs.term_set.TermSet.reserve.Goals as goal

pub returns-clause-distinct : goal.returns-clause-distinct
returns-clause-distinct c =
    distinct_terms _ _ (subst (AreHashed _) (sym c.reserve.ensures.keys) c.self.invariant) (AllPairs-from_IsDistinct hashed_decides _ c.reserve.ensures.unique)
