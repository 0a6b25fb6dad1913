-- How the cells of rows are held. Only the view of `Rows` and private clauses cite it.
use Rattle.std.specs.Prelude.{ℕ, ◌^◌, ◌+◌, Bool, true, nat_lt, if◌then◌else◌, List, map, Option, None, Some}
use Rattle.row_core.specs.declared.cells.Cells.{Cells}
use Rattle.row_core.specs.declared.cells.Cells.TheVariants.{Narrow, Wide}

-- whether a number is its own code; 2^32 - 1 is the code of an unbound cell
abbrev pub is_small : ℕ → Bool
is_small n = nat_lt (n + 1) (2 ^ 32)

-- the cell of a code
abbrev pub cell_of : ℕ → Option ℕ
cell_of code = if is_small code then Some code else None

-- whether a cell has a code
abbrev pub has_code : Option ℕ → Bool
has_code None = true
has_code (Some n) = is_small n

-- the cells that are held
abbrev pub cells_of : Cells → List (Option ℕ)
cells_of (Narrow codes) = map cell_of codes.items
cells_of (Wide cells) = cells.items
