use Rattle.std.proofs.Common.{ℕ, List, length}
use Rattle.cluster_parts.proofs.TermSteps.{AreLinesRead}
use Rattle.cluster_parts.proofs.counting.add_lines.Given as goal

abbrev pub invariant-loop-rest : goal.invariant-loop-rest
invariant-loop-rest l = (read : List (List ℕ)) × AreLinesRead l.initial.known l.text read l.rest l.known

abbrev pub decreases-loop-rest : goal.decreases-loop-rest
decreases-loop-rest l = length l.rest
