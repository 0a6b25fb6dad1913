-- Rows in slots, by the number that they bind one variable to (a choice of this project). Only private clauses use these definitions.
use Rattle.std.specs.Prelude.{◌≡◌, ℕ, ◌+◌, ◌-◌, ◌<◌, ◌≤◌, List, [], ◌∷◌, Option, None, Some, length, map, get_or, take, drop, filter, nat_eq}
use Rattle.std.specs.List.{range_with_len}
use Rattle.algebra_model.specs.Solution.{Solution}
use Rattle.row_join.specs.Places.{PlaceTable}

-- what the row at a place binds the variable to
abbrev pub cell_at : List (Solution ℕ) → ℕ → ℕ → Option ℕ
cell_at rows v i = get_or (get_or rows i []) v None

-- each number that a row binds the variable to is at least `from` and below `to`
abbrev pub AreBetween : List (Solution ℕ) → ℕ → ℕ → ℕ → Type 0
AreBetween rows v from to = (i n : ℕ) → cell_at rows v i ≡ Some n → (from ≤ n) × (n < to)

-- the slot of a cell, of one for each number from the least on and a last one: how far its number is above the least, or
-- the last slot if it is unbound
abbrev pub slot_of : ℕ → ℕ → Option ℕ → ℕ
slot_of least span None = span
slot_of least span (Some n) = n - least

-- the slot of the row at a place
abbrev pub slot_at : List (Solution ℕ) → ℕ → ℕ → ℕ → ℕ → ℕ
slot_at rows v least span i = slot_of least span (cell_at rows v i)

-- the places from `from` on and below `count` that are in slot s, in ascending order
abbrev pub places_in : (ℕ → ℕ) → ℕ → ℕ → ℕ → List ℕ
places_in slot count s from = filter (λ i. nat_eq (slot i) s) (range_with_len from (count - from))

-- The link is the first place from `from` on that is in slot s, or `count` if there is none.
pub record IsFirst (slot : ℕ → ℕ) (count s from link : ℕ) : Type 0 where
  pub after : from ≤ link
  pub low : link ≤ count
  pub here : link < count → slot link ≡ s
  pub skips : places_in slot count s from ≡ places_in slot count s link

-- each slot has a link to its first place from `from` on, and each of these places one to the next place in its slot
pub record AreLinked (slot : ℕ → ℕ) (count from : ℕ) (first next : List ℕ) : Type 0 where
  pub long : length next ≡ count
  pub firsts : (s : ℕ) → s < length first → IsFirst slot count s from (get_or first s 0)
  pub nexts : (i : ℕ) → from ≤ i → i < count → IsFirst slot count (slot i) (i + 1) (get_or next i 0)

-- the group of slot s: the places from its start to the next start
abbrev pub group_at : List ℕ → List ℕ → ℕ → List ℕ
group_at starts places s = take (get_or starts (s + 1) 0 - get_or starts s 0) (drop (get_or starts s 0) places)

-- no group ends before it starts, or after the end of the places
abbrev pub AreRising : List ℕ → List ℕ → Type 0
AreRising starts places =
    (s : ℕ) → s + 1 < length starts → (get_or starts s 0 ≤ get_or starts (s + 1) 0) × (get_or starts (s + 1) 0 ≤ length places)

-- the keys of the slots but the last: one number each, from the least on
abbrev pub slot_keys : ℕ → ℕ → List (List ℕ)
slot_keys least span = map (λ (n : ℕ). n ∷ []) (range_with_len least span)

-- the table of places in slots: the group of a key is in the slot of its number, and the last slot has the other places
abbrev pub slot_table : ℕ → ℕ → List ℕ → List ℕ → PlaceTable
slot_table least span starts places = record {
  keyed = record { keys = slot_keys least span; groups = map (λ key. group_at starts places (get_or key 0 0 - least)) (slot_keys least span) };
  apart = group_at starts places span;
}
