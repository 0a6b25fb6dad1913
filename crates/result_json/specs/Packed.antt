-- Sorted rows of ranks, each rank in a bound cell. Only private clauses use these definitions.
use Rattle.std.specs.Prelude.{ℕ, zero, suc, List, [], ◌∷◌, map, Option, None, Some}
use Rattle.row_core.specs.RowList.{RowList}

-- the rank in a cell, or 0 if it is unbound
abbrev pub rank_in : Option ℕ → ℕ
rank_in None = 0
rank_in (Some rank) = rank

-- the ranks of each row
abbrev pub ranks_in : RowList → List (List ℕ)
ranks_in rows = map (map rank_in) rows.rows

-- the first w ranks of a row, with 0 for each rank that it lacks
abbrev pub fitted : ℕ → List ℕ → List ℕ
fitted zero ranks = []
fitted (suc w) [] = 0 ∷ fitted w []
fitted (suc w) (rank ∷ ranks) = rank ∷ fitted w ranks
