use Rattle.std.proofs.Common.{◌≡◌, ◌++◌, drop}
use Rattle.cluster_parts.specs.NumberList.{differences}
use Rattle.cluster_parts.proofs.number_lists.differences_of.Given as goal

abbrev pub invariant-loop-number : goal.invariant-loop-number
invariant-loop-number l = l.found.items ++ differences l.before (drop l.number-index l.numbers) ≡ differences 0 l.numbers
