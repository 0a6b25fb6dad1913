-- Partitions of terms, quads and hashes, and how they are written (choices of this project).
use Rattle.std.specs.Prelude.{ℕ, zero, suc, Bool, false, ◌%◌, ◌++◌, ◌==◌, List, [], Option, Some, None, filter, codes}
use Rattle.std.specs.List.{flat_map}
use Rattle.rdf_core.specs.declared.term.Term.{Term}
use Rattle.rdf_core.specs.QuadParts.{QuadParts}
use Rattle.nquads_core.specs.Laws.{quad_line}
use Rattle.cluster_parts.specs.Hash.{term_hash}

-- the partition of this number has this hash, if there are this many partitions
abbrev pub is_in : ℕ → ℕ → ℕ → Bool
is_in partitions number h = h % partitions == number

-- the terms of a partition
abbrev pub terms_in : ℕ → ℕ → List Term → List Term
terms_in partitions number terms = filter (λ t. is_in partitions number (term_hash t)) terms

-- the hashes of a partition
abbrev pub hashes_in : ℕ → ℕ → List ℕ → List ℕ
hashes_in partitions number hashes = filter (is_in partitions number) hashes

-- the partition has this key; what has no key is in no partition
abbrev pub has_key : ℕ → ℕ → Option ℕ → Bool
has_key partitions number None = false
has_key partitions number (Some h) = is_in partitions number h

-- the quads of a partition, by their keys
abbrev pub quads_in : (QuadParts → Option ℕ) → ℕ → ℕ → List QuadParts → List QuadParts
quads_in key partitions number quads = filter (λ q. has_key partitions number (key q)) quads

-- a quad in canonical form, on a line of its own
abbrev pub quad_statement : QuadParts → List ℕ
quad_statement q = quad_line q ++ codes "\n"

-- quads as a document of N-Quads
abbrev pub quad_document : List QuadParts → List ℕ
quad_document quads = flat_map quad_statement quads

-- the lists with the numbers 0, 1, .., one after the other
abbrev pub texts_below : {X : Type 0} → (ℕ → List X) → ℕ → List X
texts_below text zero = []
texts_below text (suc n) = texts_below text n ++ text n
