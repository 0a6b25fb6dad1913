use Rattle.std.proofs.Common.{◌≤◌}
use Rattle.query_diagnosis.proofs.PlaceSteps.{AreOpen}
use Rattle.query_diagnosis.proofs.rules.deepest.Given as goal

abbrev pub invariant-loop-i : goal.invariant-loop-i
invariant-loop-i l = AreOpen l.tokens l.i l.depth × (l.depth ≤ 100)
