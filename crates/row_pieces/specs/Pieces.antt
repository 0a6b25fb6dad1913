-- A list of elements, split into pieces of a given size (a choice of this project).
use Rattle.std.specs.Prelude.{◌≡◌, ℕ, ◌*◌, List, take, drop}
use Rattle.algebra_model.specs.Bag.{IsSameBag}
use Rattle.algebra_model.specs.Pieces.{joined}
use Rattle.algebra_model.specs.Solution.{Solution}
use Rattle.row_core.specs.RowList.{RowList}

-- piece i of a list, with `size` elements in a piece
abbrev pub piece_of : {X : Type 0} → ℕ → ℕ → List X → List X
piece_of size i xs = take size (drop (i * size) xs)

-- rows of that width that are the multiset of the concatenated parts
abbrev pub AreRowsOf : ℕ → List (List (Solution ℕ)) → RowList → Type 0
AreRowsOf width parts made = (made.width ≡ width) × IsSameBag made.rows (joined parts)
