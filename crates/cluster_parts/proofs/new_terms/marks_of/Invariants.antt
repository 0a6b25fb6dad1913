use Rattle.std.proofs.Common.{length}
use Rattle.cluster_parts.proofs.TermSteps.{IsMarking}
use Rattle.cluster_parts.proofs.new_terms.marks_of.Given as goal

abbrev pub invariant-loop-rest : goal.invariant-loop-rest
invariant-loop-rest l = IsMarking l.initial.known l.list l.rest l.known l.made.items

abbrev pub decreases-loop-rest : goal.decreases-loop-rest
decreases-loop-rest l = length l.rest
