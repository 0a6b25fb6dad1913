use Rattle.std.proofs.Common.{length}
use Rattle.std.specs.Str.{chars}
use Rattle.nquads_core.proofs.Runs.{LabelTail}
use Rattle.nquads_core.proofs.token.skip_label_tail.Given as goal

abbrev pub invariant-loop-c : goal.invariant-loop-c
invariant-loop-c l = LabelTail l.good l.rest l.text

abbrev pub decreases-loop-c : goal.decreases-loop-c
decreases-loop-c l = length (chars l.rest)
