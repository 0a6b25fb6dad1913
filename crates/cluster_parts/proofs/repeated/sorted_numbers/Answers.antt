use Rattle.std.proofs.Common.{subst, IsPermutation}
use Rattle.cluster_parts.specs.NumberList.{FitInEightBytes}
use Rattle.cluster_parts.proofs.repeated.sorted_numbers.Goals as goal

pub returns : goal.returns
returns c = record {
  sorted = c.in_ok-sort.ensures.sorted;
  same = subst (λ l. IsPermutation l c.sort.new.self.items) c.in_ok-numbers.ensures.numbers c.sort.ensures.permutation;
  fit = subst FitInEightBytes c.in_ok-numbers.ensures.numbers c.in_ok-numbers.ensures.fit;
}
