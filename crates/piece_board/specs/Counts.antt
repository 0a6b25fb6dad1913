-- How often a number occurs in a list. All claims of the board are equations on counts: 'each
-- number below m once' is `times x xs ≡ once_below x m` for every x.
use Rattle.std.specs.Prelude.{ℕ, ◌-◌, ◌==◌, List, min, count_by}

-- how often x occurs in the list
abbrev pub times : ℕ → List ℕ → ℕ
times x xs = count_by (λ y. y == x) xs

-- 1 for a number below m, and 0 for any other
abbrev pub once_below : ℕ → ℕ → ℕ
once_below x m = min 1 (m - x)
