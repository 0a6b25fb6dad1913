use Rattle.std.proofs.Common.{length}
use Rattle.malformed_lines.proofs.ListSteps.{IsListedUpTo}
use Rattle.malformed_lines.proofs.listing.list_piece.Given as goal

abbrev pub invariant-loop-rest : goal.invariant-loop-rest
invariant-loop-rest l = IsListedUpTo l.list l.rest l.bytes

abbrev pub decreases-loop-rest : goal.decreases-loop-rest
decreases-loop-rest l = length l.rest
