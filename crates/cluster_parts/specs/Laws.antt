-- What the laws of this crate say: the counts of the partitions are those of the whole document (laws of this project).
use Rattle.std.specs.Prelude.{◌≡◌, ◌⊎◌, ℕ, zero, suc, ◌+◌, ◌<◌, ◌^◌, ◌==◌, List, [], ◌∷◌, ◌++◌, map, length, get_or, if◌then◌else◌, ⊤}
use Rattle.std.specs.List.{AllZip}
use Rattle.rdf_core.specs.QuadParts.{QuadParts}
use Rattle.nquads_core.specs.Lines.{lines, EndsLine}
use Rattle.nquads_core.specs.Pieces.{HaveStatements}
use Rattle.dict_core.specs.Appearances.{terms_of, first_appearances}
use Rattle.dict_core.specs.Numbered.{joined}
use Rattle.algebra_model.specs.Bag.{without_repeats}
use Rattle.algebra_model.specs.Dataset.{names}
use Rattle.quad_index.specs.Laws.{same_parts}
use Rattle.cluster_parts.specs.Seal.{all_sealed, joined_texts}
use Rattle.cluster_parts.specs.NumberList.{FitInEightBytes, number_list}
use Rattle.cluster_parts.specs.Parts.{hashes_in, quad_document, quads_in, terms_in, texts_below}
use Rattle.cluster_parts.specs.Repeated.{numbers_of, repeated_in, single}
use Rattle.cluster_parts.specs.Terms.{term_lines}
use Rattle.cluster_parts.specs.Output.{AreFirst, AreHashesOf, IsKept, distinct_lines, hash_among}
use Rattle.quad_index.specs.Parts.{sum_below}

-- each text but the last ends a line
abbrev pub AreWholeLines : List (List ℕ) → Type 0
AreWholeLines [] = ⊤
AreWholeLines (text ∷ texts) = (EndsLine text ⊎ (texts ≡ [])) × AreWholeLines texts

-- the blocks of a document, and the quads of each
pub record AreBlocks (blocks : List (List ℕ)) (quads : List (List QuadParts)) : Type 0 where
  pub whole : AreWholeLines blocks
  pub statements : AllZip (λ block qs. HaveStatements (lines block) qs) blocks quads

-- the quads of the blocks, one block after the other, are the quads of the document
abbrev pub BlocksJoin : Type 0
BlocksJoin =
    (blocks : List (List ℕ)) (quads : List (List QuadParts)) → AreBlocks blocks quads
    → HaveStatements (lines (joined_texts blocks)) (joined quads)

-- the lists of terms that the blocks have for a partition
abbrev pub partition_terms : ℕ → List (List QuadParts) → ℕ → List (List ℕ)
partition_terms partitions quads n = map (λ qs. term_lines (terms_in partitions n (first_appearances (terms_of qs)))) quads

-- the lists of graph names
abbrev pub partition_names : ℕ → List (List QuadParts) → ℕ → List (List ℕ)
partition_names partitions quads n = map (λ qs. term_lines (terms_in partitions n (names qs))) quads

-- the lists of hashes that the blocks have for a partition
abbrev pub partition_hashes : ℕ → List (List ℕ) → ℕ → List (List ℕ)
partition_hashes partitions hashes n = map (hashes_in partitions n) hashes

-- f at 0, 1, .. up to n - 1
abbrev pub each_below : (ℕ → List ℕ) → ℕ → List (List ℕ)
each_below f zero = []
each_below f (suc n) = each_below f n ++ f n ∷ []

-- the hashes of a block that occur again: what `repeated` writes for the block in each partition
abbrev pub hashes_again : ℕ → List (List ℕ) → ℕ → List (List ℕ)
hashes_again partitions hashes block = each_below (λ n. get_or (repeated_in (partition_hashes partitions hashes n)) block []) partitions

-- What `again` writes for a block in a partition. It does not run over a block without hashes that occur again.
abbrev pub block_again : ℕ → List (List QuadParts) → List (List ℕ) → ℕ → ℕ → List (List ℕ)
block_again partitions quads hashes n block =
    let again = numbers_of (hashes_again partitions hashes block) in
    if length again == 0 then [] else quad_document (quads_in (hash_among again) partitions n (get_or quads block [])) ∷ []

-- what `again` writes for the blocks in a partition
abbrev pub partition_again : ℕ → List (List QuadParts) → List (List ℕ) → ℕ → List (List ℕ)
partition_again partitions quads hashes n = texts_below (block_again partitions quads hashes n) (length quads)

-- the numbers of terms of the partitions add up to that of the document
abbrev pub TermsAddUp : Type 0
TermsAddUp =
    (partitions : ℕ) (blocks : List (List ℕ)) (quads : List (List QuadParts)) → 0 < partitions → AreBlocks blocks quads
    → sum_below (λ n. distinct_lines (partition_terms partitions quads n)) partitions ≡ length (first_appearances (terms_of (joined quads)))

-- so do the numbers of graph names
abbrev pub NamesAddUp : Type 0
NamesAddUp =
    (partitions : ℕ) (blocks : List (List ℕ)) (quads : List (List QuadParts)) → 0 < partitions → AreBlocks blocks quads
    → sum_below (λ n. distinct_lines (partition_names partitions quads n)) partitions ≡ length (names (joined quads))

-- Let the blocks have the hashes of their distinct quads, in any order. The distinct quads of the document are the hashes
-- that occur once, and the quads that have one of the other hashes, counted by partition. So the count is exact, also if
-- different quads have the same hash.
abbrev pub QuadsAddUp : Type 0
QuadsAddUp =
    (partitions : ℕ) (blocks : List (List ℕ)) (quads : List (List QuadParts)) (hashes : List (List ℕ))
    → 0 < partitions → AreBlocks blocks quads → AllZip AreHashesOf quads hashes
    → sum_below
    (λ n. length (single (numbers_of (partition_hashes partitions hashes n))) + distinct_lines (partition_again partitions quads hashes n))
    partitions
    ≡ length (without_repeats same_parts (joined quads))

-- the list of the terms of a block
abbrev pub block_terms : List QuadParts → List ℕ
block_terms qs = term_lines (first_appearances (terms_of qs))

-- the marks of a block in each partition, if these are the marks of all blocks in each
abbrev pub marks_of : ℕ → (ℕ → List (List ℕ)) → ℕ → List (List ℕ)
marks_of partitions firsts block = each_below (λ n. get_or (firsts n) block []) partitions

-- What `keep` writes for the blocks, one after the other, are the terms of the document by first appearance.
abbrev pub TermsAreKept : Type 0
TermsAreKept =
    (partitions : ℕ) (blocks : List (List ℕ)) (quads : List (List QuadParts)) (firsts : ℕ → List (List ℕ)) (kept : List (List ℕ))
    → 0 < partitions → AreBlocks blocks quads
    → ((n : ℕ) → AreFirst (partition_terms partitions quads n) (firsts n))
    → length kept ≡ length quads
    → ((b : ℕ) → b < length quads → IsKept (block_terms (get_or quads b [])) (marks_of partitions firsts b) (get_or kept b []))
    → joined_texts kept ≡ term_lines (first_appearances (terms_of (joined quads)))

-- Bytes are the sealed texts of one list only.
abbrev pub SealsAreUnique : Type 0
SealsAreUnique = (texts others : List (List ℕ)) → length (all_sealed texts) < 2 ^ 64 → all_sealed texts ≡ all_sealed others → texts ≡ others

-- The same of a known number of sealed texts, and of what follows them.
abbrev pub FrontsAreUnique : Type 0
FrontsAreUnique = (texts others : List (List ℕ)) (rest rest' : List ℕ) → length texts ≡ length others
    → length (all_sealed texts ++ rest) < 2 ^ 64 → all_sealed texts ++ rest ≡ all_sealed others ++ rest'
    → (texts ≡ others) × (rest ≡ rest')

-- Lists of numbers that fit into eight bytes are written as different texts.
abbrev pub ListsAreUnique : Type 0
ListsAreUnique = (lists others : List (List ℕ)) → FitInEightBytes (numbers_of lists) → FitInEightBytes (numbers_of others)
    → map number_list lists ≡ map number_list others → lists ≡ others
