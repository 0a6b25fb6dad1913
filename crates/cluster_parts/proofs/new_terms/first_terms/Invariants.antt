use Rattle.std.proofs.Common.{length}
use Rattle.cluster_parts.proofs.TermSteps.{AreMarked}
use Rattle.cluster_parts.proofs.new_terms.first_terms.Given as goal

abbrev pub invariant-loop-rest : goal.invariant-loop-rest
invariant-loop-rest l = AreMarked l.bytes l.rest l.known l.out.items

abbrev pub decreases-loop-rest : goal.decreases-loop-rest
decreases-loop-rest l = length l.rest
