-- The places of rows by the numbers that they bind the variables of a key to. A choice of this
-- project (not fixed by the standard).
use Rattle.std.specs.Prelude.{◌≡◌, ℕ, Bool, not, List, [], ◌∷◌, Some, length, get_or, map, filter, nat_eq, if◌then◌else◌}
use Rattle.std.specs.List.{range_with_len}
use Rattle.std.specs.Option.{option_eq}
use Rattle.std.specs.Cmp.Lexicographic.{pointwise}
use Rattle.algebra_model.specs.Solution.{Solution}
use Rattle.algebra_model.specs.RowOrder.{cells}
use Rattle.algebra_model.specs.Keys.{is_keyed}

-- groups of places, each under its key, which is a list of numbers
pub record GroupList : Type 0 where
  pub keys : List (List ℕ)
  pub groups : List (List ℕ)

-- the places of rows: in groups for the rows that have a key, and in one list for the others
pub record PlaceTable : Type 0 where
  pub keyed : GroupList
  pub apart : List ℕ

-- the group at the place of these numbers among the keys, or the empty list if they are not a key
abbrev pub group_in : List (List ℕ) → List (List ℕ) → List ℕ → List ℕ
group_in [] groups numbers = []
group_in (k ∷ keys) [] numbers = []
group_in (k ∷ keys) (g ∷ groups) numbers =
    if pointwise nat_eq numbers k then g else group_in keys groups numbers

-- the group of these numbers, or the empty list
abbrev pub group_of : GroupList → List ℕ → List ℕ
group_of list numbers = group_in list.keys list.groups numbers

-- the row binds the variables of the key to these numbers, in their order
abbrev pub has_key : List ℕ → List ℕ → Solution ℕ → Bool
has_key key numbers μ = pointwise (option_eq nat_eq) (map Some numbers) (cells key μ)

-- the places of the rows that pass the test, in ascending order: those below n, and all
abbrev pub places_below : ℕ → (Solution ℕ → Bool) → List (Solution ℕ) → List ℕ
places_below n p rows = filter (λ i. p (get_or rows i [])) (range_with_len 0 n)

-- the places of all rows that pass the test
abbrev pub places_where : (Solution ℕ → Bool) → List (Solution ℕ) → List ℕ
places_where p rows = places_below (length rows) p rows

-- each row has its place: in the group of its numbers if it binds all variables of the key, and in
-- the list of the others if not
abbrev pub IsTableOf : List ℕ → List (Solution ℕ) → PlaceTable → Type 0
IsTableOf key rows table =
    ((numbers : List ℕ) → group_of table.keyed numbers ≡ places_where (has_key key numbers) rows)
    × (table.apart ≡ places_where (λ μ. not (is_keyed key μ)) rows)

-- the list of the one place if the numbers are the same
abbrev pub place_if : Bool → ℕ → List ℕ
place_if b place = if b then place ∷ [] else []

-- the rows at these places
abbrev pub rows_at : List (Solution ℕ) → List ℕ → List (Solution ℕ)
rows_at rows places = map (λ i. get_or rows i []) places
