use Rattle.std.proofs.Common.{List, Option, ℕ, sym, subst}
use Rattle.sparql_eval.specs.Numbered.{IsKnownAt}
use Rattle.sparql_eval.proofs.separated_pairs.Pairs.add_pair.Goals as goal

pub add_merge-requires-clause-known_row : goal.add_merge-requires-clause-known_row
add_merge-requires-clause-known_row c = subst (λ (μ : List (Option ℕ)). IsKnownAt c.args.self.now.dict.now μ) (sym c.as_slice-one.ensures.value) c.in_ok-read_known.ensures.known

pub add_merge-requires-clause-known_other : goal.add_merge-requires-clause-known_other
add_merge-requires-clause-known_other c = subst (λ (μ : List (Option ℕ)). IsKnownAt c.args.self.now.dict.now μ) (sym c.as_slice-another.ensures.value) c.in_ok-read_known-2.ensures.known
