-- The ranks of sorted rows. Only private clauses use this definition.
use Rattle.std.specs.Prelude.{ℕ, List, map}
use Rattle.result_json.specs.declared.ranked_row.RankedRow.{RankedRow}

-- the ranks of each row
abbrev pub ranks_of : List RankedRow → List (List ℕ)
ranks_of rows = map (λ r. r.ranks.now) rows
