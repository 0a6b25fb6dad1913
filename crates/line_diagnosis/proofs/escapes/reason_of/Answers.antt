use Rattle.std.proofs.Common.{arith}
use Rattle.line_diagnosis.proofs.SaysLaws.{high_head, low_head}
use Rattle.line_diagnosis.proofs.escapes.reason_of.Goals.{else-head-value-via-then-head-value+else-value-head-2, else-head-value-via-else-head-value}
use Rattle.line_diagnosis.proofs.escapes.reason_of.Goals as goal

pub returns-else-head-value-clause-escape : goal.returns-else-head-value-clause-escape
returns-else-head-value-clause-escape c = λ e. elim c.else-head-value.branch [
  | else-head-value-via-then-head-value+else-value-head-2 w ↦
      high_head c.args.more c.args.value (omega (arith, w.head-then-head-value.ensures, w.if-value-head-2.false)) (omega (arith, c.head.ensures, c.if-value-head.false))
  | else-head-value-via-else-head-value w ↦ low_head c.args.more c.args.value (omega (arith, c.head-else-value-head.ensures, w.if-head-value.false))
]
