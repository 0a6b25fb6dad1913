use Rattle.std.proofs.Common.{◌++◌, List}
use Rattle.std.specs.Vec.Iter.{into_iter_items}
use Rattle.rdf_core.specs.QuadParts.{QuadParts}
use Rattle.dict_core.specs.Numbered.{joined}
use Rattle.text_pieces.specs.Forms.{AreNumberedBy}
use Rattle.text_pieces.specs.Pieces.{AreGrown}
use Rattle.dataset_load.specs.Rounds.{ArePiecesOf}
use Rattle.dataset_load.proofs.ReadingSteps.{AreTaken}
use Rattle.dataset_load.proofs.rounds.add_pieces.Given as goal

abbrev pub invariant-loop-piece : goal.invariant-loop-piece
invariant-loop-piece l = record {
  grown : AreGrown l.fn.dict.texts l.dict.texts;
  taken : (done : List QuadParts) (each : List (List QuadParts)) → AreNumberedBy done l.fn.dict.texts l.fn.quads → ArePiecesOf l.fn.dict.texts each l.fn.pieces.items
      → AreTaken l.fn.dict.texts l.dict.texts l.quads (into_iter_items l.piece-iterator) (done ++ joined each);
}
