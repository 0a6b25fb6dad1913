-- Numbers that some lists together have at two places.
use Rattle.std.specs.Prelude.{ℕ, Bool, false, not, List, [], ◌∷◌, filter, map, nat_eq, if◌then◌else◌}
use Rattle.std.specs.List.{flat_map, list_any}

-- the number is in the list
abbrev pub has : List ℕ → ℕ → Bool
has numbers n = list_any (nat_eq n) numbers

-- the number is in the list at two places or more
abbrev pub is_repeated : List ℕ → ℕ → Bool
is_repeated [] n = false
is_repeated (m ∷ numbers) n = if nat_eq n m then has numbers n else is_repeated numbers n

-- the numbers that are in the list once
abbrev pub single : List ℕ → List ℕ
single numbers = filter (λ n. not (is_repeated numbers n)) numbers

-- the numbers of some lists
abbrev pub numbers_of : List (List ℕ) → List ℕ
numbers_of lists = flat_map (λ list. list) lists

-- those numbers of each list that the lists together have at two places or more
abbrev pub repeated_in : List (List ℕ) → List (List ℕ)
repeated_in lists = map (filter (is_repeated (numbers_of lists))) lists
