use Rattle.std.proofs.Common.{◌≡◌, ◌≤◌, ◌+◌}
use Rattle.query_diagnosis.specs.Position.{line_number}
use Rattle.query_diagnosis.proofs.places.line_number.Given as goal

abbrev pub invariant-loop-i : goal.invariant-loop-i
invariant-loop-i l = (l.line ≡ line_number l.text l.i) × (l.line ≤ l.i + 1)
