-- A test of every number in rows. A choice of this project (not fixed by the standard).
use Rattle.std.specs.Prelude.{ℕ, Bool, true, List, Option, None, Some}
use Rattle.std.specs.List.{list_all}
use Rattle.algebra_model.specs.Solution.{Solution}

-- an unbound cell passes every test
abbrev pub cell_passes : (ℕ → Bool) → Option ℕ → Bool
cell_passes p None = true
cell_passes p (Some n) = p n

-- each number that the row binds a variable to passes the test
abbrev pub passes : (ℕ → Bool) → Solution ℕ → Bool
passes p μ = list_all (cell_passes p) μ

-- each number in the rows passes the test
abbrev pub all_pass : (ℕ → Bool) → List (Solution ℕ) → Bool
all_pass p rows = list_all (passes p) rows
