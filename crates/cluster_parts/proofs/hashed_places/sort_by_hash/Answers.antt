use Rattle.std.proofs.Common.{rules}
use Rattle.std.proofs.lemmas.List.Sorted.{answers_always}
use Rattle.cluster_parts.proofs.hashed_places.sort_by_hash.Goals as goal

pub returns-clause-sorted : goal.returns-clause-sorted
returns-clause-sorted c = c.sort_unstable_by_key.ensures.sorted (λ x. x.hash) (answers_always _ _ _ (λ f a r g h. search rules))
