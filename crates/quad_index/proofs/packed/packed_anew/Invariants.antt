use Rattle.std.proofs.Common.{◌≡◌, ◌≤◌, length, map, take, vec_len, vec_capacity}
use Rattle.quad_index.specs.Packed.{quad_of}
use Rattle.quad_index.proofs.packed.packed_anew.Given as goal

abbrev pub invariant-loop-key : goal.invariant-loop-key
invariant-loop-key l = record {
  room : length l.keys ≤ vec_capacity l.packed;
  count : vec_len l.packed ≡ l.key-index;
  same : map (quad_of l.order) l.packed.items ≡ map (quad_of l.from) (take l.key-index l.keys);
}
