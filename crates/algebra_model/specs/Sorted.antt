-- Lists made of multisets (SPARQL 1.1 Query Language, sections 18.2.5 and 18.5): the sorted list of
-- a multiset in a total order, and a slice of a list.
use Rattle.std.specs.Prelude.{◌≡◌, ℕ, false, List, [], ◌∷◌, Option, None, Some, take, drop, if◌then◌else◌}
use Rattle.std.specs.declared.cmp.Ordering.{Ordering}
use Rattle.std.specs.Ordering.{is_gt}

module _ {X : Type 0} (cmp : X → X → Ordering) where
  -- x is at most each element
  abbrev pub IsUpTo : X → List X → Type 0
  IsUpTo x [] = Unit {0}
  IsUpTo x (y ∷ ys) = (is_gt (cmp x y) ≡ false) × IsUpTo x ys

  -- no element is greater than one after it
  abbrev pub IsRising : List X → Type 0
  IsRising [] = Unit {0}
  IsRising (x ∷ xs) = IsUpTo x xs × IsRising xs

  -- the ascending list with x inserted
  abbrev pub place : X → List X → List X
  place x [] = x ∷ []
  place x (y ∷ ys) = if is_gt (cmp x y) then y ∷ place x ys else (x ∷ y ∷ ys)

  -- The elements in ascending order, with their repeats. In a total order in which only equal
  -- elements compare as equal, no other list is the same multiset in ascending order.
  abbrev pub sorted_list : List X → List X
  sorted_list [] = []
  sorted_list (x ∷ xs) = place x (sorted_list xs)

-- LIMIT (section 15.5): at most this number of elements, and all of them if there is no limit
abbrev pub limited : {X : Type 0} → Option ℕ → List X → List X
limited None xs = xs
limited (Some n) xs = take n xs

-- Slice (section 18.5): the elements from the offset on, counted from 0, at most as many as the
-- limit
abbrev pub slice : {X : Type 0} → ℕ → Option ℕ → List X → List X
slice offset limit xs = limited limit (drop offset xs)
