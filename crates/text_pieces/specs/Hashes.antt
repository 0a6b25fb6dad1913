-- The hashes of the slices of a statement. Only private clauses use these definitions.
use Rattle.std.specs.Prelude.{ℕ, List, Option, Some, None}
use Rattle.std.specs.Borrow.{Bor}
use Rattle.keyed_hash.specs.declared.HashState.{HashState}
use Rattle.keyed_hash.specs.Hashing.{hash_of}
use Rattle.nquads_core.specs.declared.slices.RawStatement.{RawStatement}
use Rattle.text_pieces.specs.declared.hashes.SliceHashes.{SliceHashes}

-- the hash of a graph label, or 0 if there is none
abbrev pub hash_of_name : HashState → Option (Bor (List ℕ)) → ℕ
hash_of_name state None = 0
hash_of_name state (Some name) = hash_of state name.now

-- the hashes of the slices of a statement
abbrev pub hashes_of : HashState → RawStatement → SliceHashes
hashes_of state raw = record {
  subject = hash_of state raw.subject.now;
  predicate = hash_of state raw.predicate.now;
  object = hash_of state raw.object.now;
  graph = hash_of_name state raw.graph;
}
