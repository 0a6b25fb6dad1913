-- What each command writes for its input (choices of this project).
use Rattle.std.specs.Prelude.{◌≡◌, ℕ, ◌<◌, Bool, true, false, List, ◌++◌, length, map, Option, Some, None, decimal, codes, IsSorted, ⊤}
use Rattle.std.specs.Ordering.{nat_cmp}
use Rattle.rdf_core.specs.QuadParts.{QuadParts}
use Rattle.nquads_core.specs.Lines.{lines}
use Rattle.nquads_core.specs.Pieces.{HaveStatements, IsFirstMalformed}
use Rattle.cluster_parts.specs.Hash.{number_bytes}
use Rattle.cluster_parts.specs.Seal.{all_sealed, joined_texts, sealed}
use Rattle.cluster_parts.specs.NumberList.{FitInEightBytes, number_list}
use Rattle.cluster_parts.specs.Repeated.{numbers_of, repeated_in, single}
use Rattle.dict_core.specs.Appearances.{terms_of, first_appearances}
use Rattle.cluster_parts.specs.Output.{AreFirst, AreHashesOf, IsKept, again_parts, check_parts, distinct_lines, keyed_parts, terms_parts}
use Rattle.cluster_parts.specs.Keys.{key_of}
use Rattle.cluster_parts.specs.declared.key_splits.QuadKey.{QuadKey}
use Rattle.query_split.specs.declared.split.Split.{Split}
use Rattle.query_plan.specs.Planned.{IsPlan}
use Rattle.query_plan.specs.declared.planning.PartsPlan.{PartsPlan}
use Rattle.result_merge.specs.Merging.{IsMerged}
use Rattle.part_core.specs.declared.command.Command.{Command}
use Rattle.part_core.specs.declared.command.Command.TheVariants.{SplitCheck, Count, Repeated, Again, SplitTerms, First, Keep, SplitQuads, Needed, Unseal, Plan, Merge}
use Rattle.part_core.specs.Needed.{IsBadAfter, IsNeededOf}

-- `split check`: the parts of a block
pub record IsSplit (partitions : ℕ) (input output : List ℕ) : Type 0 where
  pub quads : List QuadParts
  pub hashes : List ℕ
  pub statements : HaveStatements (lines input) quads
  pub hashed : AreHashesOf quads hashes
  pub ascending : IsSorted nat_cmp hashes
  pub fit : FitInEightBytes hashes
  pub parts : output ≡ check_parts partitions (length (lines input)) quads hashes

-- `count`: the number of distinct lines of sealed texts, as a line
pub record IsCounted (input output : List ℕ) : Type 0 where
  pub texts : List (List ℕ)
  pub unsealed : input ≡ all_sealed texts
  pub line : output ≡ decimal (distinct_lines texts) ++ codes "\n"

-- `repeated`: of sealed lists of hashes how many hashes occur once, and then those of each list that occur again
pub record IsRepeatedIn (input output : List ℕ) : Type 0 where
  pub lists : List (List ℕ)
  pub fit : FitInEightBytes (numbers_of lists)
  pub unsealed : input ≡ all_sealed (map number_list lists)
  pub numbers_sealed : output ≡ sealed (number_bytes (length (single (numbers_of lists)))) ++ all_sealed (map number_list (repeated_in lists))

-- `again`: after a sealed list of hashes from each partition a block; its quads that have one of the hashes
pub record IsAgain (partitions : ℕ) (input output : List ℕ) : Type 0 where
  pub lists : List (List ℕ)
  pub block : List ℕ
  pub quads : List QuadParts
  pub one_each : length lists ≡ partitions
  pub fit : FitInEightBytes (numbers_of lists)
  pub unsealed : input ≡ all_sealed (map number_list lists) ++ block
  pub statements : HaveStatements (lines block) quads
  pub parts : output ≡ again_parts (numbers_of lists) partitions quads

-- `unseal`: the sealed texts as one, not sealed
pub record IsUnsealed (input output : List ℕ) : Type 0 where
  pub texts : List (List ℕ)
  pub unsealed : input ≡ all_sealed texts
  pub joined : output ≡ joined_texts texts

-- `split subject` and `split graph`: the quads of a block by partition
pub record IsQuadSplit (key : QuadKey) (partitions : ℕ) (input output : List ℕ) : Type 0 where
  pub quads : List QuadParts
  pub statements : HaveStatements (lines input) quads
  pub parts : output ≡ keyed_parts (key_of key) partitions (length (lines input)) quads

-- `split terms`: the terms of a block, in order and by partition
pub record IsTermSplit (partitions : ℕ) (input output : List ℕ) : Type 0 where
  pub quads : List QuadParts
  pub statements : HaveStatements (lines input) quads
  pub parts : output ≡ terms_parts partitions (length (lines input)) (first_appearances (terms_of quads))

-- `first`: for each of the sealed lists of a partition, in order, which of its lines no list before it has
pub record IsFirstOf (input output : List ℕ) : Type 0 where
  pub texts : List (List ℕ)
  pub firsts : List (List ℕ)
  pub unsealed : input ≡ all_sealed texts
  pub new : AreFirst texts firsts
  pub sealed_again : output ≡ all_sealed firsts

-- `keep`: after the sealed list of a block which of its lines are new in each partition; the new lines in order
pub record IsKeptOf (input output : List ℕ) : Type 0 where
  pub list : List ℕ
  pub marks : List (List ℕ)
  pub unsealed : input ≡ sealed list ++ all_sealed marks
  pub listed : IsKept list marks output

-- the words of a merge
abbrev pub rows_words : Bool → List ℕ
rows_words true = codes "merge distinct "
rows_words false = codes "merge all "

abbrev pub limit_word : Option ℕ → List ℕ
limit_word None = codes "none"
limit_word (Some n) = decimal n

abbrev pub merge_line : Bool → ℕ → Option ℕ → List ℕ
merge_line once offset limit = rows_words once ++ (decimal offset ++ (codes " " ++ (limit_word limit ++ codes "\n")))

-- `plan`: the words of the last merge, those of the merges before it, and the query for the parts
pub record IsPlanned (split : Split) (input output : List ℕ) : Type 0 where
  pub plan : PartsPlan
  pub planned : IsPlan split input plan
  pub lines : output ≡ merge_line plan.merge.distinct plan.merge.offset plan.merge.limit
      ++ (merge_line plan.merge.distinct 0 plan.merge.kept ++ plan.query.items)

-- what a command writes
abbrev pub IsOutput : Command → List ℕ → List ℕ → Type 0
IsOutput (SplitCheck partitions) input output = IsSplit partitions input output
IsOutput Count input output = IsCounted input output
IsOutput Repeated input output = IsRepeatedIn input output
IsOutput (Again partitions) input output = IsAgain partitions input output
IsOutput (SplitTerms partitions) input output = IsTermSplit partitions input output
IsOutput First input output = IsFirstOf input output
IsOutput Keep input output = IsKeptOf input output
IsOutput (SplitQuads key partitions) input output = IsQuadSplit key partitions input output
IsOutput (Needed count) input output = IsNeededOf count input output
IsOutput Unseal input output = IsUnsealed input output
IsOutput (Plan split) input output = IsPlanned split input output
IsOutput (Merge m) input output = IsMerged m.distinct m.offset m.limit input output

-- the block after the hashes has a first malformed line
pub record IsBadBlock (partitions : ℕ) (input : List ℕ) (k : ℕ) : Type 0 where
  pub lists : List (List ℕ)
  pub block : List ℕ
  pub one_each : length lists ≡ partitions
  pub fit : FitInEightBytes (numbers_of lists)
  pub unsealed : input ≡ all_sealed (map number_list lists) ++ block
  pub malformed : IsFirstMalformed (lines block) k

-- line k of what a command reads, counted from 0, is the first malformed line
abbrev pub IsBadInput : Command → List ℕ → ℕ → Type 0
IsBadInput (SplitCheck partitions) input k = IsFirstMalformed (lines input) k
IsBadInput Count input k = ⊥
IsBadInput Repeated input k = ⊥
IsBadInput (Again partitions) input k = IsBadBlock partitions input k
IsBadInput (SplitTerms partitions) input k = IsFirstMalformed (lines input) k
IsBadInput First input k = ⊥
IsBadInput Keep input k = ⊥
IsBadInput (SplitQuads key partitions) input k = IsFirstMalformed (lines input) k
IsBadInput (Needed count) input k = IsBadAfter count input k
IsBadInput Unseal input k = ⊥
IsBadInput (Plan split) input k = ⊥
IsBadInput (Merge m) input k = ⊥

-- a command has at least one partition
abbrev pub HasPartitions : Command → Type 0
HasPartitions (SplitCheck partitions) = 0 < partitions
HasPartitions Count = ⊤
HasPartitions Repeated = ⊤
HasPartitions (Again partitions) = 0 < partitions
HasPartitions (SplitTerms partitions) = 0 < partitions
HasPartitions First = ⊤
HasPartitions Keep = ⊤
HasPartitions (SplitQuads key partitions) = 0 < partitions
HasPartitions (Needed count) = ⊤
HasPartitions Unseal = ⊤
HasPartitions (Plan split) = ⊤
HasPartitions (Merge m) = ⊤
