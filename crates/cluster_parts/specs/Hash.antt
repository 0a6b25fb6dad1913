-- The hash of a text, which chooses its partition (a choice of this project). It has no key, so that all workers
-- agree: someone who chooses the terms can make partitions unequal in size, but cannot change a result.
use Rattle.std.specs.Prelude.{ℕ, ◌%◌, ◌^◌, List, [], ◌∷◌, fold, Option, Some, None}
use Rattle.std.specs.Option.{option_map}
use Rattle.std.specs.Int.{w64, to_le_bytes}
use Rattle.core.specs.Hash.{u64}
use Rattle.core.specs.Hash.FoldHasher.{initial, write, finish}
use Rattle.core.specs.declared.hash.fold.FoldHasher.{FoldHasher}
use Rattle.rdf_core.specs.declared.term.Term.{Term}
use Rattle.rdf_core.specs.QuadParts.{QuadParts}
use Rattle.rdf_core.specs.Serialization.{serialization}

-- the eight bytes of a number, the lowest first
unfoldable pub number_bytes : ℕ → List ℕ
number_bytes n = to_le_bytes w64 n

-- the hash that the kit's `FoldHasher` computes of one text
unfoldable pub hash : List ℕ → ℕ
hash text = finish (write initial text)

-- the hasher after a number was written to it
abbrev pub write_number : FoldHasher → ℕ → FoldHasher
write_number h n = fold write h (u64 n)

-- 60 bits of the hash of numbers, written one after the other
unfoldable pub hash_numbers : List ℕ → ℕ
hash_numbers numbers = finish (fold write_number initial numbers) % 2 ^ 60

-- a term has the hash of its N-Quads form
abbrev pub term_hash : Term → ℕ
term_hash t = hash (serialization t)

-- the default graph has the hash 0
abbrev pub graph_hash : Option Term → ℕ
graph_hash None = 0
graph_hash (Some t) = term_hash t

-- a quad has the hash of the hashes of its terms
abbrev pub quad_hash : QuadParts → ℕ
quad_hash q = hash_numbers (term_hash q.s ∷ term_hash q.p ∷ term_hash q.o ∷ graph_hash q.g ∷ [])

-- quads with the same subject have the same key
abbrev pub subject_key : QuadParts → Option ℕ
subject_key q = Some (term_hash q.s)

-- quads of the same named graph have the same key; those of the default graph have none
abbrev pub graph_key : QuadParts → Option ℕ
graph_key q = option_map term_hash q.g
