use Rattle.std.proofs.Common.{length}
use Rattle.nquads_core.proofs.PieceLaws.{CountedLines}
use Rattle.nquads_core.proofs.piece.count_all_lines.Given as goal

abbrev pub invariant-loop-rest : goal.invariant-loop-rest
invariant-loop-rest l = CountedLines l.count l.rest l.text

abbrev pub decreases-loop-rest : goal.decreases-loop-rest
decreases-loop-rest l = length l.rest
