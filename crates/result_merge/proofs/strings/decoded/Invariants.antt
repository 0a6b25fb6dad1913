use Rattle.std.proofs.Common.{length}
use Rattle.result_merge.proofs.StringSteps.{IsReadTo}
use Rattle.result_merge.proofs.strings.decoded.Given as goal

abbrev pub invariant-reading : goal.invariant-reading
invariant-reading l = IsReadTo l.bytes l.text.items l.rest

abbrev pub decreases-reading : goal.decreases-reading
decreases-reading l = length l.rest
