use Rattle.std.proofs.Common.{◌≡◌, drop}
use Rattle.line_diagnosis.specs.Rest.{is_head}
use Rattle.line_diagnosis.proofs.escapes.is_head.Given as goal

abbrev pub invariant-loop-range : goal.invariant-loop-range
invariant-loop-range l = is_head (drop l.range-index l.ranges) l.more l.value ≡ is_head l.ranges l.more l.value
