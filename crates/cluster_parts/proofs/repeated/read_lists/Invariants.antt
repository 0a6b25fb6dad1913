use Rattle.std.proofs.Common.{◌≡◌, ◌++◌, All, IsSorted, length, map, nat_cmp}
use Rattle.cluster_parts.specs.Known.{items_of}
use Rattle.cluster_parts.specs.NumberList.{number_list}
use Rattle.cluster_parts.specs.Seal.{all_sealed}
use Rattle.cluster_parts.proofs.repeated.read_lists.Given as goal

abbrev pub invariant-loop-rest : goal.invariant-loop-rest
invariant-loop-rest l = (l.bytes ≡ all_sealed (map number_list (items_of l.lists.items)) ++ l.rest) × All (IsSorted nat_cmp) (items_of l.lists.items)

abbrev pub decreases-loop-rest : goal.decreases-loop-rest
decreases-loop-rest l = length l.rest
