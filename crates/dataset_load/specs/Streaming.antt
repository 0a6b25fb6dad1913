-- What loading the rest of a reader comes to.
use Rattle.std.specs.Prelude.{ℕ, List, Option}
use Rattle.std.specs.Io.KnownBytes.{Consumes, IsAtEnd}
use Rattle.nquads_core.specs.Lines.{lines}
use Rattle.nquads_core.specs.Pieces.{IsBadLine}
use Rattle.quad_filter.specs.declared.filter.QuadFilter.{QuadFilter}
use Rattle.dataset_load.specs.Store.{StoreView}
use Rattle.dataset_load.specs.Loaded.{IsKeptLoaded, IsLoaded}

-- The reader was read to its end, and this is the dataset of what was read.
pub record IsLoadedFrom (left left' : Option (List ℕ)) (store : StoreView) : Type 0 where
  pub doc : List ℕ
  pub consumed : Consumes left left' doc
  pub at_end : IsAtEnd left'
  pub loaded : IsLoaded (lines doc) store

-- The reader was read to its end, and the store has the quads of what was read that the filter keeps, and perhaps others of
-- what was read.
pub record IsKeptLoadedFrom (filter : QuadFilter) (left left' : Option (List ℕ)) (store : StoreView) : Type 0 where
  pub doc : List ℕ
  pub consumed : Consumes left left' doc
  pub at_end : IsAtEnd left'
  pub loaded : IsKeptLoaded filter (lines doc) store

-- The reader was read to its end, and this line of what was read, counted from 1, is the first that is
-- malformed.
pub record IsBadLineFrom (left left' : Option (List ℕ)) (line : ℕ) : Type 0 where
  pub doc : List ℕ
  pub consumed : Consumes left left' doc
  pub at_end : IsAtEnd left'
  pub bad : IsBadLine (lines doc) line
