use Rattle.std.proofs.Common.{drop}
use Rattle.piece_cuts.specs.Cuts.{AreCuts, AreCutsFrom}
use Rattle.piece_cuts.proofs.places.are_cuts.Given as goal

-- the rule is true of all places exactly if it is true of the remaining ones
abbrev pub invariant-loop-place : goal.invariant-loop-place
invariant-loop-place l = record {
  back : AreCutsFrom l.doc l.low (drop l.place-index l.places) → AreCuts l.doc l.places;
  forth : AreCuts l.doc l.places → AreCutsFrom l.doc l.low (drop l.place-index l.places);
}
