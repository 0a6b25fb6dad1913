use Rattle.std.proofs.Common.{◌≡◌, ◌+◌, ◌-◌, ◌≤◌, ◌++◌, length, map, take, vec_len, vec_capacity}
use Rattle.quad_index.specs.Packed.{quad_of}
use Rattle.quad_index.proofs.packed.push_quads.Given as goal

abbrev pub invariant-loop-key : goal.invariant-loop-key
invariant-loop-key l = record {
  room : vec_len l.list + (length l.keys - l.key-index) ≤ vec_capacity l.list;
  added : l.list.items ≡ l.fn.list.items ++ map (quad_of l.order) (take l.key-index l.keys);
}
