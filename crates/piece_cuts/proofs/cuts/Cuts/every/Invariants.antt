use Rattle.std.proofs.Common.{ℕ, ◌-◌, ◌≤◌, ◌++◌, List, length}
use Rattle.piece_cuts.specs.Cuts.{AreEveryFrom}
use Rattle.piece_cuts.proofs.cuts.Cuts.every.Given as goal

-- the rest from the start on completes the places so far
abbrev pub invariant-loop-place : goal.invariant-loop-place
invariant-loop-place l = record {
  inside : l.start ≤ length l.doc;
  so_far : (rest : List ℕ) → AreEveryFrom l.doc l.size l.start rest → AreEveryFrom l.doc l.size 0 (l.places.items ++ rest);
}

abbrev pub decreases-loop-place : goal.decreases-loop-place
decreases-loop-place l = length l.doc - l.start
