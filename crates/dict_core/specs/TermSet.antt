-- What a contract sees of a set of terms. Only private clauses use this definition.
use Rattle.std.specs.Prelude.{ℕ, List}
use Rattle.rdf_core.specs.declared.term.Term.{Term}
use Rattle.keyed_hash.specs.declared.HashState.{HashState}

-- the terms in the order of insertion, the state of the hash function, and how many more fit without an allocation
pub record TermSetView : Type 0 where
  pub keys : List Term
  pub state : HashState
  pub spare : ℕ
