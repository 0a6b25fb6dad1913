-- Two ranks in one number. Only private clauses use this definition.
use Rattle.std.specs.Prelude.{ℕ, List, [], ◌∷◌, ◌/◌, ◌%◌, ◌^◌}

-- the two ranks that a number holds, the first in its upper half
abbrev pub pair_in : ℕ → List ℕ
pair_in key = key / 2 ^ 32 ∷ key % 2 ^ 32 ∷ []
