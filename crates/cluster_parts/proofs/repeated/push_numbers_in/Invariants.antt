use Rattle.std.proofs.Common.{◌≡◌, filter, nat_eq, take}
use Rattle.indexmap.specs.IndexSet.{contains}
use Rattle.cluster_parts.proofs.repeated.push_numbers_in.Given as goal

abbrev pub invariant-loop-number : goal.invariant-loop-number
invariant-loop-number l = l.chosen.items ≡ filter (contains nat_eq l.set) (take l.number-index l.list)
