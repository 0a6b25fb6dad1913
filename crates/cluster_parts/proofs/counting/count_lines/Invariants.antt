use Rattle.std.proofs.Common.{ℕ, List, length}
use Rattle.cluster_parts.proofs.TermSteps.{AreTextsRead}
use Rattle.cluster_parts.proofs.counting.count_lines.Given as goal

abbrev pub invariant-loop-rest : goal.invariant-loop-rest
invariant-loop-rest l = (texts : List (List ℕ)) × AreTextsRead l.bytes texts l.rest l.known

abbrev pub decreases-loop-rest : goal.decreases-loop-rest
decreases-loop-rest l = length l.rest
