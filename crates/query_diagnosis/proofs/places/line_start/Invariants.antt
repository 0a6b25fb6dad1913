use Rattle.std.proofs.Common.{◌≡◌, ◌≤◌}
use Rattle.query_diagnosis.specs.Position.{line_start}
use Rattle.query_diagnosis.proofs.places.line_start.Given as goal

abbrev pub invariant-loop-i : goal.invariant-loop-i
invariant-loop-i l = (l.start ≡ line_start l.text l.i) × (l.start ≤ l.i)
