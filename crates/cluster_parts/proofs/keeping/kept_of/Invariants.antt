use Rattle.std.proofs.Common.{◌≡◌, length}
use Rattle.cluster_parts.proofs.TermSteps.{IsKeeping}
use Rattle.cluster_parts.proofs.keeping.kept_of.Given as goal

abbrev pub invariant-loop-rest : goal.invariant-loop-rest
invariant-loop-rest l = (length l.taken.items ≡ length l.marks) × IsKeeping l.list l.rest l.marks l.taken.items l.out.items

abbrev pub decreases-loop-rest : goal.decreases-loop-rest
decreases-loop-rest l = length l.rest
