-- Terms with their hashes. Only private clauses use these definitions, and no result depends on a hash.
use Rattle.std.specs.Prelude.{◌≡◌, ℕ, List, fold, map}
use Rattle.std.specs.List.{All}
use Rattle.rdf_core.specs.declared.term.Term.{Term}
use Rattle.rdf_core.specs.contracts.term.TermHash.TheImpl as hashes
use Rattle.keyed_hash.specs.declared.HashState.{HashState}
use Rattle.keyed_hash.specs.Hashing.{write, finish}
use Rattle.dict_core.specs.declared.hashed_term.HashedTerm.{HashedTerm}

-- the hash of a term under a state
abbrev pub hash_of : HashState → Term → ℕ
hash_of state t = finish (fold write state.initial ((hashes.ghosts).hash_input t))

-- the term has its hash under the state
abbrev pub IsHashed : HashState → HashedTerm → Type 0
IsHashed state t = t.hash ≡ hash_of state t.term

-- so has each of these
abbrev pub AreHashed : HashState → List HashedTerm → Type 0
AreHashed state hashed = All (IsHashed state) hashed

-- the terms without their hashes
abbrev pub terms_in : List HashedTerm → List Term
terms_in hashed = map (λ t. t.term) hashed
