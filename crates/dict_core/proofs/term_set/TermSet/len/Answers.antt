use Rattle.std.proofs.Common.{sym, subst}
use Rattle.std.proofs.lemmas.Map.Made.{AllPairs-from_IsDistinct}
use Rattle.dict_core.specs.Dict.{AreDistinct}
use Rattle.dict_core.specs.HashedTerms.{terms_in}
use Rattle.dict_core.proofs.HashedLaws.{distinct_terms, hashed_decides}
use Rattle.dict_core.proofs.term_set.TermSet.len.Goals as goal

pub returns-clause-distinct : goal.returns-clause-distinct
returns-clause-distinct c =
    subst (λ v. AreDistinct v.keys) c.self.view_is
    (distinct_terms _ _ c.self.invariant (AllPairs-from_IsDistinct hashed_decides _ c.len.ensures.unique))
