-- What the loops know. Only private clauses use these definitions.
use Rattle.std.specs.Prelude.{◌≡◌, ℕ, ◌<◌, ◌≤◌, ◌%◌, List, [], ◌∷◌, ◌++◌, length, get_or, map, Vec, IsSorted, ⊤}
use Rattle.std.specs.Ordering.{nat_cmp}
use Rattle.std.specs.Borrow.{Bor}
use Rattle.std.specs.declared.alloc.Global.{Global}
use Rattle.indexmap.specs.IndexSet.{IndexSet}
use Rattle.cluster_parts.specs.Hash.{hash, number_bytes}
use Rattle.cluster_parts.specs.Seal.{sealed}
use Rattle.cluster_parts.specs.NumberList.{FitInEightBytes, differences, in_bytes, number_list, width}
use Rattle.cluster_parts.specs.Parts.{hashes_in, texts_below}
use Rattle.cluster_parts.specs.Terms.{has_line, line_list, lines_in}
use Rattle.cluster_parts.specs.declared.sealing.SealFault.{SealFault}
use Rattle.cluster_parts.specs.declared.sealing.SealFault.TheVariants.{Version, Damaged, Memory}

-- borrowed texts
abbrev pub texts_of : List (Bor (List ℕ)) → List (List ℕ)
texts_of borrowed = map (λ text. text.now) borrowed

-- the lines of a set
abbrev pub known_lines : {S : Type 0} → IndexSet (Bor (List ℕ)) S → List (List ℕ)
known_lines set = texts_of set.keys

-- the set has these lines, and no others
abbrev pub AreKnown : {S : Type 0} → List (List ℕ) → IndexSet (Bor (List ℕ)) S → Type 0
AreKnown ls set = (l : List ℕ) → has_line (known_lines set) l ≡ has_line ls l

-- for each partition the number of its lines
abbrev pub AreTaken : ℕ → List (List ℕ) → List ℕ → Type 0
AreTaken partitions ls counts = (n : ℕ) → n < partitions → get_or counts n 0 ≡ length (lines_in partitions n ls)

-- the sealed lines of a partition
abbrev pub lines_part : ℕ → List (List ℕ) → ℕ → List ℕ
lines_part partitions texts number = sealed (line_list (lines_in partitions number texts))

-- the number of lines, the texts, and those of each partition
abbrev pub lines_parts : ℕ → ℕ → List (List ℕ) → List ℕ
lines_parts partitions count texts =
    sealed (number_bytes count) ++ (sealed (line_list texts) ++ texts_below (lines_part partitions texts) partitions)

-- three sealed texts: the texts and the names of a partition, each on a line, and its hashes
abbrev pub counted_part : ℕ → List (List ℕ) → List (List ℕ) → List ℕ → ℕ → List ℕ
counted_part partitions texts names hashes number =
    lines_part partitions texts number
    ++ (lines_part partitions names number ++ sealed (number_list (hashes_in partitions number hashes)))

-- lists of the code
abbrev pub items_of : List (Vec ℕ Global) → List (List ℕ)
items_of lists = map (λ list. list.items) lists

-- ---- bytes that are not read

-- as `IsFaultOf`, of bytes that have no head
abbrev pub IsDamageOf : Type 0 → SealFault → Type 0
IsDamageOf Whole Version = ⊥
IsDamageOf Whole Damaged = Whole → ⊥
IsDamageOf Whole Memory = ⊤

-- the bytes begin with a sealed text
abbrev pub BeginsSealed : List ℕ → Type 0
BeginsSealed bytes = (text : List ℕ) × (after : List ℕ) × (bytes ≡ sealed text ++ after)

-- the bytes begin with a text that has this length and this checksum
abbrev pub BeginsChecked : ℕ → ℕ → List ℕ → Type 0
BeginsChecked len checksum bytes =
    (text : List ℕ) × (after : List ℕ) × (bytes ≡ text ++ after) × (number_bytes len ≡ number_bytes (length text))
    × (number_bytes checksum ≡ number_bytes (hash text))

-- the width of some differences, and these differences
abbrev pub AreDifferences : List ℕ → Type 0
AreDifferences bytes = (found : List ℕ) × FitInEightBytes found × (bytes ≡ width found ∷ in_bytes (width found) found)

-- the differences of numbers in ascending order
abbrev pub HaveSums : List ℕ → Type 0
HaveSums found = (numbers : List ℕ) × IsSorted nat_cmp numbers × FitInEightBytes numbers × (differences 0 numbers ≡ found)

-- the text of a list of numbers in ascending order
abbrev pub IsListText : List ℕ → Type 0
IsListText bytes = (numbers : List ℕ) × IsSorted nat_cmp numbers × FitInEightBytes numbers × (bytes ≡ number_list numbers)

-- the partition of a line that comes after these lines has no mark for it
abbrev pub HasNoMark : List (List ℕ) → List (List ℕ) → List ℕ → Type 0
HasNoMark marks before line =
    let number = hash line % length marks in length (get_or marks number []) ≤ length (lines_in (length marks) number before)
