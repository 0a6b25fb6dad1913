use Rattle.std.proofs.Common.{◌≤◌, drop, length}
use Rattle.query_diagnosis.specs.Symbols.{AreEnds, may_end}
use Rattle.query_diagnosis.proofs.completion.push_ends.Given as goal

abbrev pub invariant-loop-place : goal.invariant-loop-place
invariant-loop-place l = (l.place ≤ length l.stack) × AreEnds (may_end (drop l.place l.stack)) l.fn.end.items l.end.items

abbrev pub decreases-loop-place : goal.decreases-loop-place
decreases-loop-place l = l.place
