use Rattle.std.proofs.Common.{◌≡◌, ◌++◌, filter, map, nat_eq, take}
use Rattle.indexmap.specs.IndexSet.{contains}
use Rattle.cluster_parts.specs.Known.{items_of}
use Rattle.cluster_parts.specs.NumberList.{number_list}
use Rattle.cluster_parts.specs.Seal.{all_sealed}
use Rattle.cluster_parts.proofs.repeated.push_lists_in.Given as goal

abbrev pub invariant-loop-list : goal.invariant-loop-list
invariant-loop-list l =
    l.out.items ≡ l.initial.out.items ++ all_sealed (map (λ list. number_list (filter (contains nat_eq l.set) list)) (items_of (take l.list-index l.lists)))
