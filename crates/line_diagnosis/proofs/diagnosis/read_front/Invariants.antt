use Rattle.std.proofs.Common.{length}
use Rattle.std.specs.Str.{chars}
use Rattle.line_diagnosis.proofs.FrontLaws.{IsFront}
use Rattle.line_diagnosis.proofs.diagnosis.read_front.Given as goal

abbrev pub invariant-loop-c : goal.invariant-loop-c
invariant-loop-c l = IsFront l.text l.rest l.state

abbrev pub decreases-loop-c : goal.decreases-loop-c
decreases-loop-c l = length (chars l.rest)
