use Rattle.std.proofs.Common.{length, ◌-◌}
use Rattle.nquads_scan.specs.Ends.{IsPassed, IsPlaceAfter}
use Rattle.nquads_scan.proofs.search.search_singly.Given as goal

abbrev pub invariant-loop-at : goal.invariant-loop-at
invariant-loop-at l = record { place : IsPlaceAfter l.bytes l.from l.at; passed : IsPassed l.a l.b l.bytes l.from l.at }

abbrev pub decreases-loop-at : goal.decreases-loop-at
decreases-loop-at l = length l.bytes - l.at
