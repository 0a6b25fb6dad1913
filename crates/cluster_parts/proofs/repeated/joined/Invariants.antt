use Rattle.std.proofs.Common.{◌≡◌, take}
use Rattle.cluster_parts.specs.Known.{items_of}
use Rattle.cluster_parts.specs.Repeated.{numbers_of}
use Rattle.cluster_parts.proofs.repeated.joined.Given as goal

abbrev pub invariant-loop-list : goal.invariant-loop-list
invariant-loop-list l = l.numbers.items ≡ numbers_of (items_of (take l.list-index l.lists))
