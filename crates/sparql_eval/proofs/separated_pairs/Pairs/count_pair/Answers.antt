use Rattle.std.proofs.Common.{◌<◌, ℕ, List, Option, length, sym, subst}
use Rattle.algebra_model.proofs.ReadingLaws.{bound_at}
use Rattle.sparql_eval.specs.Numbered.{IsKnownRow}
use Rattle.sparql_eval.proofs.separated_pairs.Pairs.count_pair.Goals as goal

pub invariant_of-merged : goal.invariant_of-merged
invariant_of-merged c =
    let terms = c.args.self.now.dict.now in
    let known = subst (λ (μ : List (Option ℕ)). IsKnownRow terms μ) (sym c.as_slice.ensures.value) c.in_ok-cells.ensures.known in
    record { known = λ k n f. bound_at (λ n. n < length terms) c.as_slice.result.now k n known f }
