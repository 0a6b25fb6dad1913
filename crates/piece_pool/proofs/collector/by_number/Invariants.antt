use Rattle.std.proofs.Common.{◌≡◌, ℕ, ◌<◌, ◌≤◌, ◌⊎◌, IsSome, None, All, Contains, vec_len, vec_capacity, get_or}
use Rattle.std.specs.Option.{IfSome}
use Rattle.std.specs.Vec.Iter.{into_iter_items}
use Rattle.piece_pool.specs.Worked.{numbers_of}
use Rattle.piece_pool.proofs.collector.by_number.Given as goal

abbrev pub invariant-loop : goal.invariant-loop
invariant-loop g l = record {
  count : vec_len l.slots ≡ l.counter;
  room : l.count ≤ vec_capacity l.slots;
  empty : (i : ℕ) → get_or l.slots.items i None ≡ None;
}

abbrev pub invariant-loop-i : goal.invariant-loop-i
invariant-loop-i g l = record {
  count : vec_len l.slots ≡ l.n;
  held : (i : ℕ) → IfSome (get_or l.slots.items i None) (λ out. Contains l.fn.outs.items (i, out));
  rest : All (Contains l.fn.outs.items) (into_iter_items l.i-iterator);
  covered : (i : ℕ) → i < l.n → IsSome (get_or l.slots.items i None) ⊎ Contains (numbers_of (into_iter_items l.i-iterator)) i;
}
