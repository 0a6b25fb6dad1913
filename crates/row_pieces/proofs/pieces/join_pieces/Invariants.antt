use Rattle.std.proofs.Common.{◌≡◌, ◌++◌, All}
use Rattle.std.specs.List.{flat_map}
use Rattle.std.specs.Vec.Iter.{into_iter_items}
use Rattle.row_pieces.proofs.pieces.join_pieces.Given as goal

abbrev pub invariant-loop-out : goal.invariant-loop-out
invariant-loop-out l = record {
  width : l.rows.width ≡ l.width;
  wide : All (λ out. out.width ≡ l.width) (into_iter_items l.out-iterator);
  joined : l.rows.rows ++ flat_map (λ out. out.rows) (into_iter_items l.out-iterator) ≡ flat_map (λ out. out.rows) l.fn.outs.items;
}
