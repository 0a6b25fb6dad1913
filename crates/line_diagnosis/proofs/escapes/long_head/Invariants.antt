use Rattle.std.proofs.Common.{◌≡◌}
use Rattle.line_diagnosis.specs.Rest.{head}
use Rattle.line_diagnosis.proofs.escapes.long_head.Given as goal

abbrev pub invariant-loop-left : goal.invariant-loop-left
invariant-loop-left l = head l.left l.head ≡ head l.digits l.number

abbrev pub decreases-loop-left : goal.decreases-loop-left
decreases-loop-left l = l.left
