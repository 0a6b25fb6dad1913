-- What the commands read, if it is more than sealed texts (choices of this project).
use Rattle.std.specs.Prelude.{◌≡◌, ℕ, List, ◌++◌, length, map, IsSorted}
use Rattle.std.specs.Ordering.{nat_cmp}
use Rattle.std.specs.List.{All}
use Rattle.cluster_parts.specs.Seal.{all_sealed, sealed}
use Rattle.cluster_parts.specs.NumberList.{FitInEightBytes, number_list}
use Rattle.cluster_parts.specs.Repeated.{numbers_of}
use Rattle.cluster_parts.specs.Output.{IsKept}

-- lists of numbers in ascending order that fit into eight bytes
abbrev pub AreAscending : List (List ℕ) → Type 0
AreAscending lists = All (IsSorted nat_cmp) lists × FitInEightBytes (numbers_of lists)

-- `repeated`: sealed lists of such numbers
abbrev pub AreSealedLists : List ℕ → Type 0
AreSealedLists bytes = (lists : List (List ℕ)) × AreAscending lists × (bytes ≡ all_sealed (map number_list lists))

-- `again`: this many sealed lists of such numbers, and something after them
abbrev pub BeginWithLists : ℕ → List ℕ → Type 0
BeginWithLists count bytes =
    (lists : List (List ℕ)) × (rest : List ℕ) × (length lists ≡ count) × AreAscending lists
    × (bytes ≡ all_sealed (map number_list lists) ++ rest)

-- `keep`: a sealed list, and the sealed marks of its lines
abbrev pub AreListAndMarks : List ℕ → Type 0
AreListAndMarks bytes =
    (list : List ℕ) × (marks : List (List ℕ)) × (text : List ℕ) × (bytes ≡ sealed list ++ all_sealed marks)
    × IsKept list marks text
