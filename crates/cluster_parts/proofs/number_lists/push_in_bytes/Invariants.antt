use Rattle.std.proofs.Common.{◌≡◌, ◌++◌, take}
use Rattle.cluster_parts.specs.NumberList.{in_bytes}
use Rattle.cluster_parts.proofs.number_lists.push_in_bytes.Given as goal

abbrev pub invariant-loop-number : goal.invariant-loop-number
invariant-loop-number l = l.out.items ≡ l.initial.out.items ++ in_bytes l.count (take l.number-index l.numbers)
