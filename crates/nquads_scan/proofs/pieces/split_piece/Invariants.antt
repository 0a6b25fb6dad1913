use Rattle.std.proofs.Common.{length}
use Rattle.nquads_scan.proofs.PieceSteps.{SplitLines}
use Rattle.nquads_scan.proofs.pieces.split_piece.Given as goal

abbrev pub invariant-loop-rest : goal.invariant-loop-rest
invariant-loop-rest l = SplitLines l.statements.items l.count l.rest l.bytes

abbrev pub decreases-loop-rest : goal.decreases-loop-rest
decreases-loop-rest l = length l.rest
