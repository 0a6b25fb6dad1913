use Rattle.std.proofs.Common.{length}
use Rattle.nquads_scan.proofs.PlainLineSteps.{Skipped}
use Rattle.nquads_scan.proofs.plain_lines.skip_plain_lines.Given as goal

abbrev pub invariant-loop-rest : goal.invariant-loop-rest
invariant-loop-rest l = Skipped l.count l.rest l.text

abbrev pub decreases-loop-rest : goal.decreases-loop-rest
decreases-loop-rest l = length l.rest
