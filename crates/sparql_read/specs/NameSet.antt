-- Sets of names, as lists whose order and repeats do not matter.
use Rattle.std.specs.Prelude.{◌≡◌, ℕ, List, Bool}
use Rattle.std.specs.List.{list_any}
use Rattle.std.specs.Str.{bytes_eq}

-- the name is in the set
abbrev pub is_among : List ℕ → List (List ℕ) → Bool
is_among x xs = list_any (bytes_eq x) xs

-- the same names occur in both
pub record HaveSame (xs ys : List (List ℕ)) : Type 0 where
  pub each : (x : List ℕ) → is_among x xs ≡ is_among x ys
