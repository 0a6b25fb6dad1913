-- The places of the candidates for a left row. Only private clauses use this definition.
use Rattle.std.specs.Prelude.{ℕ, List, ◌++◌}
use Rattle.std.specs.List.{range_with_len}
use Rattle.row_join.specs.declared.tried.Tried.{Tried}
use Rattle.row_join.specs.declared.tried.Tried.TheVariants.{Keyed, All}

-- the places in both lists, or those of all rows
abbrev pub places_of : Tried → List ℕ
places_of (Keyed found apart) = found.now ++ apart.now
places_of (All count) = range_with_len 0 count
