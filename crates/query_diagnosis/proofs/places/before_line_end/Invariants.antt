use Rattle.std.proofs.Common.{◌≡◌, ◌++◌, take, drop}
use Rattle.query_diagnosis.specs.Position.{before_line_end}
use Rattle.query_diagnosis.proofs.places.before_line_end.Given as goal

abbrev pub invariant-loop-i : goal.invariant-loop-i
invariant-loop-i l = before_line_end l.text ≡ take l.i l.text ++ before_line_end (drop l.i l.text)
