use Rattle.std.proofs.Common.{◌≡◌, ◌+◌, ◌-◌, ◌≤◌, ◌++◌, length, map, take, vec_len, vec_capacity}
use Rattle.quad_index.specs.Packed.{quad_of}
use Rattle.quad_index.proofs.packed.push_keys.Given as goal

abbrev pub invariant-loop-quad : goal.invariant-loop-quad
invariant-loop-quad l = record {
  room : vec_len l.keys + (length l.quads - l.quad-index) ≤ vec_capacity l.keys;
  added : map (quad_of l.order) l.keys.items ≡ map (quad_of l.order) l.fn.keys.items ++ take l.quad-index l.quads;
}
