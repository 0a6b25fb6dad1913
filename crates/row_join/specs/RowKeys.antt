-- A row as a key of numbers: two for each cell (a choice of this project). Only private clauses use these definitions.
use Rattle.std.specs.Prelude.{ℕ, List, [], ◌∷◌, Option, None, Some, flat_map}

-- whether the cell is bound, and its number
abbrev pub cell_numbers : Option ℕ → List ℕ
cell_numbers None = 0 ∷ 0 ∷ []
cell_numbers (Some n) = 1 ∷ n ∷ []

-- the numbers of all cells
abbrev pub row_numbers : List (Option ℕ) → List ℕ
row_numbers = flat_map cell_numbers
