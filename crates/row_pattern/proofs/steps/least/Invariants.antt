use Rattle.std.proofs.Common.{◌<◌, length}
use Rattle.row_pattern.proofs.steps.least.Given as goal

abbrev pub invariant-loop-i : goal.invariant-loop-i
invariant-loop-i l = l.least < length l.steps
