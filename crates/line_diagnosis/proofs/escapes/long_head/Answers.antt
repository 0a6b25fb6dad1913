use Rattle.std.proofs.Common.{◌∙◌}
use Rattle.line_diagnosis.proofs.DigitLaws.{head_step}
use Rattle.line_diagnosis.proofs.escapes.long_head.Goals as goal

pub loop-left-preserved : goal.loop-left-preserved
loop-left-preserved c = head_step c.loop-left.left c.loop-left.head c.loop-left-test.true ∙ c.loop-left.invariant
