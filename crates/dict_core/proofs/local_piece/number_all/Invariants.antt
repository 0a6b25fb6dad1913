use Rattle.std.proofs.Common.{◌≡◌, ◌+◌, ◌≤◌, ◌++◌, List, map, vec_len, vec_capacity}
use Rattle.std.specs.Vec.Iter.{into_iter_items, into_iter_len}
use Rattle.rdf_core.specs.QuadParts.{QuadParts, parts_of}
use Rattle.dict_core.specs.Numbered.{IsNumbered}
use Rattle.dict_core.proofs.local_piece.number_all.Given as goal

abbrev pub invariant-loop-quad : goal.invariant-loop-quad
invariant-loop-quad l = record {
  room : vec_len l.numbered + into_iter_len l.quad-iterator ≤ vec_capacity l.numbered;
  so_far : (done : List QuadParts) × IsNumbered done l.dict l.numbered.items × (done ++ map parts_of (into_iter_items l.quad-iterator) ≡ map parts_of l.fn.quads.items);
}
