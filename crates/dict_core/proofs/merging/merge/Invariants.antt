use Rattle.std.proofs.Common.{◌≡◌, ◌++◌, List}
use Rattle.std.specs.Vec.Iter.{into_iter_items}
use Rattle.rdf_core.specs.QuadParts.{QuadParts}
use Rattle.dict_core.specs.Numbered.{IsNumbered, joined}
use Rattle.dict_core.proofs.merging.merge.Given as goal

abbrev pub invariant-loop-piece : goal.invariant-loop-piece
invariant-loop-piece l =
    (done : List QuadParts) × IsNumbered done l.dict l.all.items × (done ++ joined (into_iter_items l.piece-iterator) ≡ joined l.fn.pieces.items)
