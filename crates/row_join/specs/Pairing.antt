-- What one row of the left side gives with the right side (SPARQL 1.1 Query Language, section
-- 18.5). Only private clauses use these definitions.
use Rattle.std.specs.Prelude.{ℕ, Bool, not, ◌||◌, List, [], ◌∷◌, None, get_or, is_some, nat_eq, if◌then◌else◌}
use Rattle.std.specs.List.{list_all, list_any}
use Rattle.algebra_model.specs.Solution.{Solution, is_compatible}
use Rattle.algebra_model.specs.Operators.{share}

-- some of the rows binds the variable
abbrev pub binds : List (Solution ℕ) → ℕ → Bool
binds rows v = list_any (λ μ. is_some (get_or μ v None)) rows

-- μ shares a bound variable with some of the rows
abbrev pub shares_some : List (Solution ℕ) → Solution ℕ → Bool
shares_some rows μ = list_any (share μ) rows

-- each of the rows is incompatible with μ, or shares no bound variable with it
abbrev pub is_apart : List (Solution ℕ) → Solution ℕ → Bool
is_apart rows μ = list_all (λ ν. not (is_compatible nat_eq μ ν) || not (share μ ν)) rows

-- the list of μ if it passes, and the empty list otherwise
abbrev pub row_if : Bool → Solution ℕ → List (Solution ℕ)
row_if b μ = if b then μ ∷ [] else []
