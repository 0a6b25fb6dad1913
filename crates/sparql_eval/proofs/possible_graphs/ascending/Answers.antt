use Rattle.std.proofs.Common.{ℕ, List, nat_eq, sym, ap, ◌∙◌, subst}
use Rattle.std.specs.List.{dedup, list_any}
use Rattle.std.specs.List.Sorted.{IsStrictlyIncreasing}
use Rattle.std.proofs.lemmas.List.Filters.{dedup_is}
use Rattle.std.proofs.lemmas.List.Sorted.{list_any-IsPermutation}
use Rattle.std.proofs.lemmas.Map.Keys.{IsStrictlyIncreasing-dedup}
use Rattle.sparql_eval.proofs.PossibleSteps.{any_deduped}
use Rattle.sparql_eval.proofs.possible_graphs.ascending.Goals as goal

pub returns : goal.returns
returns c =
    let once = dedup_is nat_eq _ _ c.dedup.ensures.filtered in
    let sorted = c.sort_unstable.new.self.items in
    record {
      rising = subst IsStrictlyIncreasing (sym once) (IsStrictlyIncreasing-dedup sorted c.sort_unstable.ensures.sorted);
      same = λ n. ap (λ (l : List ℕ). list_any (λ x. nat_eq x n) l) once ∙ any_deduped sorted n
          ∙ sym (list_any-IsPermutation (λ x. nat_eq x n) c.args.numbers.items sorted c.sort_unstable.ensures.permutation);
    }
