use Rattle.std.proofs.Common.{◌≡◌, ℕ, ◌+◌, ◌<◌, ◌≤◌, ◌++◌, map, Some, None, IsSome, vec_len, vec_capacity, get_or}
use Rattle.std.specs.Vec.Iter.{into_iter_items, into_iter_len}
use Rattle.piece_pool.proofs.collector.unwrapped.Given as goal

abbrev pub invariant-loop-slot : goal.invariant-loop-slot
invariant-loop-slot g l = record {
  room : vec_len l.outs + into_iter_len l.slot-iterator ≤ vec_capacity l.outs;
  joined : map Some l.outs.items ++ into_iter_items l.slot-iterator ≡ l.fn.slots.items;
  some : (k : ℕ) → k < into_iter_len l.slot-iterator → IsSome (get_or (into_iter_items l.slot-iterator) k None);
}
