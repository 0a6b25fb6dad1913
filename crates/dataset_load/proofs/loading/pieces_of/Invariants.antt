use Rattle.std.proofs.Common.{◌≡◌, take}
use Rattle.piece_cuts.specs.Laws.{pieces_of}
use Rattle.dataset_load.specs.Lines.{texts}
use Rattle.dataset_load.proofs.loading.pieces_of.Given as goal

abbrev pub invariant-loop-i : goal.invariant-loop-i
invariant-loop-i l = texts l.pieces.items ≡ take l.i (pieces_of l.doc l.cuts)
