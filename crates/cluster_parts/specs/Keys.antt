-- The key by which quads are split (choices of this project).
use Rattle.std.specs.Prelude.{ℕ, ◌%◌, Bool, List, Option, Some, None, get_or, is_none, map}
use Rattle.std.specs.Option.{option_map}
use Rattle.rdf_core.specs.QuadParts.{QuadParts}
use Rattle.dict_core.specs.declared.num_quad.NumQuad.{NumQuad}
use Rattle.cluster_parts.specs.Hash.{graph_key, subject_key}
use Rattle.cluster_parts.specs.Parts.{has_key}
use Rattle.cluster_parts.specs.declared.key_splits.QuadKey.{QuadKey}
use Rattle.cluster_parts.specs.declared.key_splits.QuadKey.TheVariants.{Subject, Graph}

abbrev pub key_of : QuadKey → QuadParts → Option ℕ
key_of Subject q = subject_key q
key_of Graph q = graph_key q

-- the key of a quad of numbers, from the hashes of the terms; only private clauses use this definition
abbrev pub key_by_numbers : QuadKey → List ℕ → NumQuad → Option ℕ
key_by_numbers Subject hashes q = Some (get_or hashes q.s 0)
key_by_numbers Graph hashes q = option_map (λ n. get_or hashes n 0) q.g

-- a part has this key: that of a partition has its keys, and one without a number has the quads without a key; only private
-- clauses use this definition
abbrev pub is_chosen : ℕ → Option ℕ → Option ℕ → Bool
is_chosen partitions None key = is_none key
is_chosen partitions (Some number) key = has_key partitions number key

-- the number of the partition that has a key; only private clauses use this definition
abbrev pub reduced_key : ℕ → (QuadParts → Option ℕ) → QuadParts → Option ℕ
reduced_key partitions key q = option_map (λ h. h % partitions) (key q)

-- the numbers of the partitions that have these hashes; only private clauses use this definition
abbrev pub remainders : ℕ → List ℕ → List ℕ
remainders partitions hashes = map (λ h. h % partitions) hashes
