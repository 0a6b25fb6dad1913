-- The counts and the terms of a document, of which no index is built.
use Rattle.std.specs.Prelude.{◌≡◌, ℕ, List, length, map, Option}
use Rattle.rdf_core.specs.Serialization.{serialization}
use Rattle.text_dict.specs.TextDict.{TextDictView}
use Rattle.dataset_load.specs.declared.counted.Counted.{Counted}
use Rattle.dataset_load.specs.Store.{StoreView, names_in}
use Rattle.dataset_load.specs.Streaming.{IsLoadedFrom}

-- the N-Quads forms of the terms of a dataset, and the numbers of its quads and graph names
pub record IsCountOf (store : StoreView) (counted : Counted) : Type 0 where
  pub terms : counted.dict.texts ≡ map serialization store.dict
  pub quads : counted.quads ≡ length store.index
  pub graphs : counted.graphs ≡ length (names_in store.index)

-- The reader was read to its end, and these are the terms and the counts of the dataset of what was read.
pub record IsCountedFrom (left left' : Option (List ℕ)) (counted : Counted) : Type 0 where
  pub store : StoreView
  pub loaded : IsLoadedFrom left left' store
  pub counts : IsCountOf store counted

-- The reader was read to its end, and these are the N-Quads forms of the terms of the dataset of what was read.
pub record AreTermsFrom (left left' : Option (List ℕ)) (dict : TextDictView) : Type 0 where
  pub store : StoreView
  pub loaded : IsLoadedFrom left left' store
  pub same : dict.texts ≡ map serialization store.dict
