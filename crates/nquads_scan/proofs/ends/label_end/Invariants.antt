use Rattle.std.proofs.Common.{◌≡◌, true, drop}
use Rattle.nquads_scan.specs.Ends.{ends_label, HasNoEndIn, IsPlaceAfter}
use Rattle.nquads_scan.proofs.ends.label_end.Given as goal

abbrev pub invariant-loop-at : goal.invariant-loop-at
invariant-loop-at l = record {
  place : IsPlaceAfter l.bytes l.from l.at;
  ends : ends_label (drop l.at l.bytes) ≡ true;
  kept : HasNoEndIn l.bytes l.from l.at;
}

abbrev pub decreases-loop-at : goal.decreases-loop-at
decreases-loop-at l = l.at
