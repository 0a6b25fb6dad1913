-- The result of loading a document: its dataset (RDF 1.1 Concepts, section 4), or its first malformed line
-- (RDF 1.1 N-Quads, grammar).
use Rattle.std.specs.Prelude.{◌≡◌, ℕ, List, map, IsPermutation}
use Rattle.rdf_core.specs.QuadParts.{QuadParts}
use Rattle.nquads_core.specs.Pieces.{HaveStatements}
use Rattle.algebra_model.specs.Bag.{IsSameSet, without_repeats}
use Rattle.algebra_model.specs.Dataset.{names}
use Rattle.dict_core.specs.Dict.{term_at}
use Rattle.dict_core.specs.NumQuad.{quads_at}
use Rattle.dict_core.specs.Appearances.{terms_of, first_appearances}
use Rattle.quad_filter.specs.declared.filter.QuadFilter.{QuadFilter}
use Rattle.quad_filter.specs.Filter.{keeps}
use Rattle.quad_filter.specs.Kept.{IsKept}
use Rattle.quad_index.specs.Laws.{same_parts}
use Rattle.dataset_load.specs.Store.{StoreView, names_in}

-- The terms of the store are the terms of these quads by first appearance; its numbered quads, read through the
-- terms, are the set of the quads, each once; and the graph names in it are the names of the graphs, each once.
pub record IsStoreOf (quads : List QuadParts) (store : StoreView) : Type 0 where
  pub terms : store.dict ≡ first_appearances (terms_of quads)
  pub dataset : IsSameSet (quads_at store.dict store.index) quads
  pub each_once : IsPermutation (without_repeats same_parts quads) (quads_at store.dict store.index)
  pub graphs : IsPermutation (names quads) (map (term_at store.dict) (names_in store.index))

-- Every line is valid, these are its quads, and the store is that of these quads.
pub record IsLoaded (lines : List (List ℕ)) (store : StoreView) : Type 0 where
  pub quads : List QuadParts
  pub statements : HaveStatements lines quads
  pub store_of : IsStoreOf quads store

-- Every line is valid. The store is that of the quads of the lines that the filter keeps, and perhaps of others of the lines.
pub record IsKeptLoaded (filter : QuadFilter) (lines : List (List ℕ)) (store : StoreView) : Type 0 where
  pub all : List QuadParts
  pub statements : HaveStatements lines all
  pub quads : List QuadParts
  pub kept : IsKept (keeps filter) all quads
  pub store_of : IsStoreOf quads store
