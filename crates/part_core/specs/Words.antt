-- The command lines of the program (a choice of this project).
use Rattle.std.specs.Prelude.{◌≡◌, ◌<◌, ◌≤◌, ◌^◌, ℕ, Bool, true, false, List, [], ◌∷◌, Option, Some, None, codes}
use Rattle.std.specs.Str.Parse.{IsNumeral, digits_value, without_leading_plus}
use Rattle.cluster_parts.specs.declared.key_splits.QuadKey.{QuadKey}
use Rattle.cluster_parts.specs.declared.key_splits.QuadKey.TheVariants.{Subject, Graph}
use Rattle.query_split.specs.declared.split.Split.{Split}
use Rattle.query_split.specs.declared.split.Split.TheVariants as split
use Rattle.part_core.specs.declared.command.Command.{Command}
use Rattle.part_core.specs.declared.command.Command.TheVariants.{SplitCheck, Count, Repeated, Again, SplitTerms, First, Keep, SplitQuads, Needed, Unseal, Plan, Merge}

-- the word is a decimal number below 2^64, with or without a plus sign
abbrev pub IsNumber : List ℕ → ℕ → Type 0
IsNumber word n =
    IsNumeral 10 (without_leading_plus word) × (n < 2 ^ 64) × (n ≡ digits_value 10 (without_leading_plus word))

-- the word is a number of partitions
abbrev pub ArePartitions : List ℕ → ℕ → Type 0
ArePartitions word n = IsNumber word n × (0 < n) × (n ≤ 65536)

-- the word is a LIMIT, or `none`
abbrev pub IsLimit : List ℕ → Option ℕ → Type 0
IsLimit word None = word ≡ codes "none"
IsLimit word (Some n) = IsNumber word n

-- which rows a merge lists
abbrev pub rows_word : Bool → List ℕ
rows_word true = codes "distinct"
rows_word false = codes "all"

abbrev pub key_word : QuadKey → List ℕ
key_word Subject = codes "subject"
key_word Graph = codes "graph"

abbrev pub split_word : Split → List ℕ
split_word split.Lines = codes "lines"
split_word split.Subject = codes "subject"
split_word split.Graph = codes "graph"
split_word split.GraphWithDefault = codes "graph-with-default"

-- the words are those of the command
abbrev pub AreWordsOf : List (List ℕ) → Command → Type 0
AreWordsOf words Count = words ≡ codes "count" ∷ []
AreWordsOf words Repeated = words ≡ codes "repeated" ∷ []
AreWordsOf words First = words ≡ codes "first" ∷ []
AreWordsOf words Keep = words ≡ codes "keep" ∷ []
AreWordsOf words Unseal = words ≡ codes "unseal" ∷ []
AreWordsOf words (Again p) = (n : List ℕ) × (words ≡ codes "again" ∷ n ∷ []) × ArePartitions n p
AreWordsOf words (SplitCheck p) = (n : List ℕ) × (words ≡ codes "split" ∷ codes "check" ∷ n ∷ []) × ArePartitions n p
AreWordsOf words (SplitTerms p) = (n : List ℕ) × (words ≡ codes "split" ∷ codes "terms" ∷ n ∷ []) × ArePartitions n p
AreWordsOf words (SplitQuads key p) = (n : List ℕ) × (words ≡ codes "split" ∷ key_word key ∷ n ∷ []) × ArePartitions n p
AreWordsOf words (Needed count) = (n : List ℕ) × (words ≡ codes "needed" ∷ n ∷ []) × IsNumber n count
AreWordsOf words (Plan s) = words ≡ codes "plan" ∷ split_word s ∷ []
AreWordsOf words (Merge m) =
    (offset : List ℕ) × (limit : List ℕ) × (words ≡ codes "merge" ∷ rows_word m.distinct ∷ offset ∷ limit ∷ [])
    × IsNumber offset m.offset × IsLimit limit m.limit

-- the words after the name of the program are those of the command
abbrev pub IsCommandLine : List (List ℕ) → Command → Type 0
IsCommandLine [] command = ⊥
IsCommandLine (name ∷ words) command = AreWordsOf words command
