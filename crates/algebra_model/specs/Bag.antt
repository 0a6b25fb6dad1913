-- Multisets (bags): lists whose order does not matter (SPARQL 1.1 Query Language, section 18.3,
-- multisets of solution mappings).
use Rattle.std.specs.Prelude.{◌≡◌, Bool, false, not, List, [], ◌∷◌, filter, IsPermutation, Contains, ◌↔◌, ⊤}
use Rattle.std.specs.List.{list_any}

-- The lists are the same multiset: one is a permutation of the other. The law `a_bag_is_its_counts`
-- states that this is so exactly if each element occurs equally often in both.
abbrev pub IsSameBag : {X : Type 0} → List X → List X → Type 0
IsSameBag xs ys = IsPermutation xs ys

-- no element occurs twice in the list, so the list is a set
abbrev pub IsWithoutRepeats : {X : Type 0} → (X → X → Bool) → List X → Type 0
IsWithoutRepeats same [] = ⊤
IsWithoutRepeats same (x ∷ xs) = (list_any (same x) xs ≡ false) × IsWithoutRepeats same xs

-- the list without its repeats: each element once, at its first place
module _ {X : Type 0} (same : X → X → Bool) where
  abbrev pub without_repeats : List X → List X
  without_repeats [] = []
  without_repeats (x ∷ xs) = x ∷ filter (λ y. not (same x y)) (without_repeats xs)

-- the lists have the same elements, in any order and any number of times
abbrev pub IsSameSet : {X : Type 0} → List X → List X → Type 0
IsSameSet {X} xs ys = (x : X) → Contains xs x ↔ Contains ys x
