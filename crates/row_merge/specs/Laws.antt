-- What the law of this crate says.
use Rattle.std.specs.Prelude.{◌≡◌, ℕ, Bool, List, Option, map}
use Rattle.algebra_model.specs.Pieces.{joined}
use Rattle.row_merge.specs.Merged.{IsEnough, Table, merged}

-- The parts may be merged in groups, and the results of the groups once more, if each group keeps enough rows.
abbrev pub MergesNest : Type 0
MergesNest =
    (once : Bool) (offset : ℕ) (limit kept : Option ℕ) (groups : List (List Table))
    → IsEnough kept offset limit
    → merged once offset limit (map (merged once 0 kept) groups) ≡ merged once offset limit (joined groups)
