use Rattle.std.proofs.lemmas.List.Sorted.{IsPermutation-trans}
use Rattle.algebra_model.proofs.RowOrderLaws.{derived, derived-is}
use Rattle.result_json.proofs.RankSteps.{terms_rise}
use Rattle.result_json.proofs.ranking.sorted_terms.Goals as goal

pub returns-clause-permutation : goal.returns-clause-permutation
returns-clause-permutation g c = IsPermutation-trans _ _ _ c.in_ok-order.ensures.permutation c.in_ok-sort.ensures.permutation

pub returns-clause-rising : goal.returns-clause-rising
returns-clause-rising g c = terms_rise derived derived-is c.sort.new.self.items c.in_ok-sort.ensures.sorted
