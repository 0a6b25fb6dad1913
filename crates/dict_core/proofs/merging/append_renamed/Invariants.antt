use Rattle.std.proofs.Common.{◌≡◌, ◌+◌, ◌≤◌, ◌++◌, map, length, vec_len, vec_capacity}
use Rattle.std.specs.Vec.Iter.{into_iter_items, into_iter_len}
use Rattle.dict_core.specs.NumQuad.{AreBelow}
use Rattle.dict_core.specs.Numbered.{renamed}
use Rattle.dict_core.proofs.merging.append_renamed.Given as goal

abbrev pub invariant-loop-quad : goal.invariant-loop-quad
invariant-loop-quad l = record {
  room : vec_len l.all + into_iter_len l.quad-iterator ≤ vec_capacity l.all;
  below : AreBelow (length l.numbers) (into_iter_items l.quad-iterator);
  quads : l.all.items ++ map (renamed l.numbers) (into_iter_items l.quad-iterator) ≡ l.fn.all.items ++ map (renamed l.numbers) l.fn.quads.items;
}
