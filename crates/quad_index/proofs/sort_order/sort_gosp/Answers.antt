use Rattle.std.proofs.Common.{rules}
use Rattle.std.proofs.lemmas.List.Sorted.{answers_always}
use Rattle.quad_index.proofs.sort_order.sort_gosp.Goals as goal

pub returns-clause-sorted : goal.returns-clause-sorted
returns-clause-sorted c =
    c.sort_unstable_by_key.ensures.sorted (λ q. (q.g, q.o, q.s, q.p)) (answers_always _ _ _ (λ f a r g h. search rules))
