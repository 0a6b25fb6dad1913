use Rattle.std.proofs.Common.{◌≡◌, ◌++◌, ℕ, All, IsSorted, List, length, map, nat_cmp}
use Rattle.cluster_parts.specs.NumberList.{number_list}
use Rattle.cluster_parts.specs.Repeated.{numbers_of}
use Rattle.cluster_parts.specs.Seal.{all_sealed}
use Rattle.cluster_parts.proofs.number_lists.first_lists.Given as goal

abbrev pub invariant-loop-list : goal.invariant-loop-list
invariant-loop-list l =
    (lists : List (List ℕ)) × (length lists ≡ l._list) × (l.numbers.items ≡ numbers_of lists) × (l.bytes ≡ all_sealed (map number_list lists) ++ l.rest)
    × All (IsSorted nat_cmp) lists
