-- The view of `Rows`, and the layout of its cells. Only the view itself uses the layout.
use Rattle.std.specs.Prelude.{ℕ, zero, suc, List, [], ◌∷◌, Option, None, take, drop, max}

-- the number of variables, and for each row the number of each variable's term
pub record RowList : Type 0 where
  pub width : ℕ
  pub rows : List (List (Option ℕ))

-- the number of cells that a row takes, at least one
abbrev pub stride : ℕ → ℕ
stride w = max w 1

-- the cells of a row; a row without variables has one cell
abbrev pub padded : {X : Type 0} → List (Option X) → List (Option X)
padded [] = None ∷ []
padded (x ∷ row) = x ∷ row

-- the first n rows of consecutive cells, with one row every `step` cells
abbrev pub rows_in : {X : Type 0} → ℕ → ℕ → ℕ → List X → List (List X)
rows_in w step zero cells = []
rows_in w step (suc n) cells = take w cells ∷ rows_in w step n (drop step cells)
