-- What the commands write (choices of this project).
use Rattle.std.specs.Prelude.{◌≡◌, ℕ, ◌<◌, List, [], ◌++◌, Option, Some, None, is_none, map, filter, get_or, length, if◌then◌else◌, IsPermutation}
use Rattle.std.specs.List.{flat_map}
use Rattle.std.specs.Str.{bytes_eq}
use Rattle.rdf_core.specs.declared.term.Term.{Term}
use Rattle.rdf_core.specs.QuadParts.{QuadParts}
use Rattle.nquads_core.specs.Lines.{lines}
use Rattle.dict_core.specs.Appearances.{terms_of, first_appearances}
use Rattle.algebra_model.specs.Bag.{without_repeats}
use Rattle.algebra_model.specs.Dataset.{names}
use Rattle.quad_index.specs.Laws.{same_parts}
use Rattle.cluster_parts.specs.Hash.{number_bytes, quad_hash}
use Rattle.cluster_parts.specs.Seal.{sealed}
use Rattle.cluster_parts.specs.NumberList.{number_list}
use Rattle.cluster_parts.specs.Parts.{terms_in, hashes_in, quad_document, quads_in, texts_below}
use Rattle.cluster_parts.specs.Repeated.{has}
use Rattle.cluster_parts.specs.Terms.{line_list, lines_in, marked_lines, marks_in_turn, term_lines}

-- three sealed texts: terms and graph names of a partition, each on a line, and its hashes
abbrev pub counting_part : ℕ → List Term → List Term → List ℕ → ℕ → List ℕ
counting_part partitions terms names hashes number =
    sealed (term_lines (terms_in partitions number terms))
    ++ (sealed (term_lines (terms_in partitions number names))
    ++ sealed (number_list (hashes_in partitions number hashes)))

-- the hashes of the distinct quads, in some order
abbrev pub AreHashesOf : List QuadParts → List ℕ → Type 0
AreHashesOf quads hashes = IsPermutation (map quad_hash (without_repeats same_parts quads)) hashes

-- `split check`: the number of lines, and for each partition the distinct terms, the distinct graph names, and those of
-- these hashes that it has
abbrev pub check_parts : ℕ → ℕ → List QuadParts → List ℕ → List ℕ
check_parts partitions count quads hashes =
    sealed (number_bytes count)
    ++ texts_below (counting_part partitions (first_appearances (terms_of quads)) (names quads) hashes) partitions

-- the hash of a quad, if it is one of these hashes
abbrev pub hash_among : List ℕ → QuadParts → Option ℕ
hash_among hashes q = if has hashes (quad_hash q) then Some (quad_hash q) else None

-- the sealed quads of a partition
abbrev pub quads_part : (QuadParts → Option ℕ) → ℕ → List QuadParts → ℕ → List ℕ
quads_part key partitions quads number = sealed (quad_document (quads_in key partitions number quads))

-- `again`: the quads that have one of the hashes, by partition
abbrev pub again_parts : List ℕ → ℕ → List QuadParts → List ℕ
again_parts hashes partitions quads = texts_below (quads_part (hash_among hashes) partitions quads) partitions

-- `split subject` and `split graph`: the number of lines, the quads without a key, and those of each partition
abbrev pub keyed_parts : (QuadParts → Option ℕ) → ℕ → ℕ → List QuadParts → List ℕ
keyed_parts key partitions count quads =
    sealed (number_bytes count)
    ++ (sealed (quad_document (filter (λ q. is_none (key q)) quads)) ++ texts_below (quads_part key partitions quads) partitions)

-- `count`: the number of distinct lines of some texts
abbrev pub distinct_lines : List (List ℕ) → ℕ
distinct_lines texts = length (without_repeats bytes_eq (flat_map lines texts))

-- the sealed terms of a partition
abbrev pub terms_part : ℕ → List Term → ℕ → List ℕ
terms_part partitions terms number = sealed (term_lines (terms_in partitions number terms))

-- `split terms`: the number of lines, the distinct terms, and those of each partition
abbrev pub terms_parts : ℕ → ℕ → List Term → List ℕ
terms_parts partitions count terms =
    sealed (number_bytes count) ++ (sealed (term_lines terms) ++ texts_below (terms_part partitions terms) partitions)

-- `first`: which lines of each list are new
abbrev pub AreFirst : List (List ℕ) → List (List ℕ) → Type 0
AreFirst lists firsts = firsts ≡ marks_in_turn [] (map lines lists)

-- `keep`: the lines of a list that are marked as new, where each partition has a mark for each of its lines
pub record IsKept (list : List ℕ) (marks : List (List ℕ)) (output : List ℕ) : Type 0 where
  pub some : 0 < length marks
  pub each : (n : ℕ) → n < length marks → length (get_or marks n []) ≡ length (lines_in (length marks) n (lines list))
  pub kept : output ≡ line_list (marked_lines marks [] (lines list))
