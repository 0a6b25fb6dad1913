-- The counts of the dataset of lines. Only private clauses use this definition.
use Rattle.std.specs.Prelude.{ℕ, List}
use Rattle.dataset_load.specs.declared.counted.Counted.{Counted}
use Rattle.dataset_load.specs.Counted.{IsCountOf}
use Rattle.dataset_load.specs.Loaded.{IsLoaded}
use Rattle.dataset_load.specs.Store.{StoreView}

-- the terms and the counts of the dataset of these lines
pub record IsCounted (lines : List (List ℕ)) (counted : Counted) : Type 0 where
  pub store : StoreView
  pub loaded : IsLoaded lines store
  pub counts : IsCountOf store counted
