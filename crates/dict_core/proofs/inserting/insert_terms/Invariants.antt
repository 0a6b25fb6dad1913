use Rattle.std.proofs.Common.{◌≡◌, ◌+◌, ◌≤◌, ◌++◌, length, vec_len, vec_capacity}
use Rattle.indexmap.specs.IndexSet.{insert_all}
use Rattle.rdf_core.proofs.TermLaws.{term_eq}
use Rattle.dict_core.specs.Dict.{AreDistinct}
use Rattle.dict_core.specs.HashedTerms.{terms_in, AreHashed}
use Rattle.dict_core.specs.Inserting.{places_in}
use Rattle.dict_core.proofs.inserting.insert_terms.Given as goal

abbrev pub invariant-loop-hashed : goal.invariant-loop-hashed
invariant-loop-hashed l = record {
  room : vec_len l.places + length l.hashed-iterator ≤ vec_capacity l.places;
  spare_is : length l.hashed-iterator ≤ l.set.spare;
  hashed : AreHashed l.from l.hashed-iterator;
  keys : insert_all term_eq l.set.keys (terms_in l.hashed-iterator) ≡ insert_all term_eq l.fn.set.keys l.fn.terms.keys;
  places : l.places.items ++ places_in l.set.keys (terms_in l.hashed-iterator) ≡ places_in l.fn.set.keys l.fn.terms.keys;
  distinct : AreDistinct l.set.keys;
}
