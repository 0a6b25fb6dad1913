-- Rows in slots: the links of their places, the groups in one list, and the table that they make.
use Rattle.std.proofs.Common.{◌≡◌, ℕ, suc, ◌+◌, ◌-◌, ◌<◌, ◌≤◌, Bool, true, false, not, cond, ◌&&◌, ◌||◌, List, [], ◌∷◌, ◌++◌, length, map, filter, flat_map, take, drop, get_or, set, nat_eq, Option, None, Some, is_some, refl, sym, ap, subst, ◌∙◌, arith, append_assoc, inl, inr, if◌then◌else◌, true≢false}
use Rattle.std.specs.List.{list_any, range_with_len}
use Rattle.std.proofs.lemmas.Bool.Decides.{eqb_tells}
use Rattle.std.proofs.lemmas.Grind.{flat_map-append}
use Rattle.std.proofs.lemmas.List.{append-nil, drop_at, get_or-set_same, get_or-set_other, length-append, length-set, map-append, take_at}
use Rattle.std.proofs.lemmas.List.Folds.{Any-from_list_any, list_any_at}
use Rattle.std.proofs.lemmas.List.FromFn.{get_or-map-range_with_len, length-map-range_with_len}
use Rattle.algebra_model.specs.Solution.{Solution}
use Rattle.algebra_model.specs.Keys.{is_keyed}
use Rattle.row_join.specs.KeyTable.{same_numbers}
use Rattle.row_join.specs.Places.{IsTableOf, PlaceTable, group_in, group_of, has_key, places_where}
use Rattle.row_join.specs.Slots.{AreBetween, AreLinked, AreRising, IsFirst, cell_at, group_at, places_in, slot_at, slot_keys, slot_of, slot_table}
use Rattle.row_join.proofs.DistinctLaws.{equal-if, unequal-if}
use Rattle.row_join.proofs.KeyTableLaws.{is_same, not_same, same_is}
use Rattle.row_join.proofs.PlaceLaws.{has_key-numbers, has_key-unkeyed, range_next, range_split}

-- the links

module _ (slot : ℕ → ℕ) (count : ℕ) where
  -- the places from i on, by whether i is one of them
  places_in-step : (s i : ℕ) (b : Bool) → i < count → nat_eq (slot i) s ≡ b → places_in slot count s i ≡ cond b (i ∷ places_in slot count s (i + 1)) (places_in slot count s (i + 1))
  places_in-step s i b low is =
      let e : count - i ≡ suc (count - (i + 1)) = omega arith in
      ap (λ (k : ℕ). filter (λ j. nat_eq (slot j) s) (range_with_len i k)) e
      ∙ ap (λ c. cond c (i ∷ places_in slot count s (i + 1)) (places_in slot count s (i + 1))) is

  places_in-all : (s : ℕ) → places_in slot count s 0 ≡ filter (λ i. nat_eq (slot i) s) (range_with_len 0 count)
  places_in-all s =
      let e : count - 0 ≡ count = omega arith in
      ap (λ (k : ℕ). filter (λ j. nat_eq (slot j) s) (range_with_len 0 k)) e

  -- one more place, the one before those that are linked
  pub linked-turn : (first next : List ℕ) (p t : ℕ) → p < count → t ≡ slot p → t < length first → AreLinked slot count (p + 1) first next
      → AreLinked slot count p (set first t p) (set next p (get_or first t 0))
  linked-turn first next p t low is inside was =
      record {
        long = length-set next p (get_or first t 0) ∙ was.long;
        firsts = λ s h.
            elim (eqb_tells s t) [
              | inl e ↦
                  subst (IsFirst slot count s p) (sym (ap (λ (k : ℕ). get_or (set first t p) k 0) e.1 ∙ get_or-set_same first t p 0 inside))
                  record { after = omega arith; low = omega arith; here = λ _. sym (e.1 ∙ is); skips = refl }
              | inr e ↦
                  let l = was.firsts s (let k = length-set first t p in omega arith) in
                  let after = l.after in
                  subst (IsFirst slot count s p) (sym (get_or-set_other first t s p 0 e.1))
                  record { after = omega arith; low = l.low; here = l.here; skips = places_in-step s p false low (unequal-if (slot p) s (λ k. e.1 (sym (is ∙ k)))) ∙ l.skips }
            ];
        nexts = λ i from below.
            elim (eqb_tells i p) [
              | inl e ↦
                  let inside' : p < length next = let k = was.long in omega arith in
                  subst (λ (k : ℕ). IsFirst slot count (slot k) (k + 1) (get_or (set next p (get_or first t 0)) k 0)) (sym e.1)
                  (subst (IsFirst slot count (slot p) (p + 1)) (sym (get_or-set_same next p (get_or first t 0) 0 inside'))
                  (subst (λ (k : ℕ). IsFirst slot count k (p + 1) (get_or first t 0)) is (was.firsts t inside)))
              | inr e ↦
                  let other = e.1 in
                  subst (IsFirst slot count (slot i) (i + 1)) (sym (get_or-set_other next p i (get_or first t 0) 0 e.1)) (was.nexts i (omega (arith, other)) below)
            ];
      }

  -- one more place of a slot is added, and its link followed
  pub added-turn : (first next : List ℕ) (s p link : ℕ) (was now all : List ℕ) → AreLinked slot count 0 first next → p < count → slot p ≡ s → link ≡ get_or next p 0
      → was ++ places_in slot count s p ≡ all → now ≡ was ++ p ∷ []
      → (now ++ places_in slot count s link ≡ all) × (link ≤ count) × (link < count → slot link ≡ s) × (p < link)
  added-turn first next s p link was now all linked low at is h e =
      let l : IsFirst slot count s (p + 1) link =
      subst (IsFirst slot count s (p + 1)) (sym is) (subst (λ (k : ℕ). IsFirst slot count k (p + 1) (get_or next p 0)) at (linked.nexts p (omega arith) low)) in
      let after = l.after in (
        ap (λ (x : List ℕ). x ++ places_in slot count s link) e
            ∙ append_assoc was (p ∷ []) (places_in slot count s link)
            ∙ ap (λ (x : List ℕ). was ++ p ∷ x) (sym l.skips)
            ∙ ap (λ (x : List ℕ). was ++ x) (sym (places_in-step s p true low (equal-if (slot p) s at)))
            ∙ h,
        l.low,
        l.here,
        omega arith,
      )

-- the groups in one list

-- the first n groups, one after another
abbrev pub joined_groups : (ℕ → List ℕ) → ℕ → List ℕ
joined_groups group n = flat_map group (range_with_len 0 n)

-- the starts of the first n groups and the end of the last one, and all their places
pub record AreGroups (group : ℕ → List ℕ) (n : ℕ) (starts places : List ℕ) : Type 0 where
  pub starts_are : starts ≡ map (λ s. length (joined_groups group s)) (range_with_len 0 (n + 1))
  pub places_are : places ≡ joined_groups group n

module _ (group : ℕ → List ℕ) where
  joined-more : (n : ℕ) → joined_groups group (n + 1) ≡ joined_groups group n ++ group n
  joined-more n =
      ap (flat_map group) (range_next n) ∙ flat_map-append group (range_with_len 0 n) (n ∷ []) ∙ ap (λ (x : List ℕ). joined_groups group n ++ x) (append-nil (group n))

  joined-split : (s t : ℕ) → s ≤ t → joined_groups group t ≡ joined_groups group s ++ flat_map group (range_with_len s (t - s))
  joined-split s t le =
      let e : t ≡ s + (t - s) = omega arith in
      let z : 0 + s ≡ s = omega arith in
      ap (joined_groups group) e ∙ ap (flat_map group) (range_split s (t - s) 0)
      ∙ flat_map-append group (range_with_len 0 s) (range_with_len (0 + s) (t - s))
      ∙ ap (λ (k : ℕ). joined_groups group s ++ flat_map group (range_with_len k (t - s))) z

  pub groups-turn : (n : ℕ) (starts places starts' places' : List ℕ) → AreGroups group n starts places → places' ≡ places ++ group n → starts' ≡ starts ++ length places' ∷ []
      → AreGroups group (n + 1) starts' places'
  groups-turn n starts places starts' places' was more start =
      let all : places' ≡ joined_groups group (n + 1) = more ∙ ap (λ (x : List ℕ). x ++ group n) was.places_are ∙ sym (joined-more n) in
      let size = λ (s : ℕ). length (joined_groups group s) in
      record {
        starts_are = start ∙ (λ j. was.starts_are j ++ length (all j) ∷ []) ∙ sym (ap (map size) (range_next (n + 1)) ∙ map-append size (range_with_len 0 (n + 1)) ((n + 1) ∷ []));
        places_are = all;
      }

  module _ (n : ℕ) (starts places : List ℕ) (are : AreGroups group n starts places) where
    start : (s : ℕ) → s ≤ n → get_or starts s 0 ≡ length (joined_groups group s)
    start s le =
        ap (λ (l : List ℕ). get_or l s 0) are.starts_are
        ∙ get_or-map-range_with_len (λ s. length (joined_groups group s)) 0 (n + 1) s s 0 (omega arith) (omega arith)

    next_start : (s : ℕ) → s < n → get_or starts (s + 1) 0 ≡ get_or starts s 0 + length (group s)
    next_start s low =
        let a = start s (omega arith) in
        let b = start (s + 1) (omega arith) in
        let e = ap length (joined-more s) ∙ length-append (joined_groups group s) (group s) in
        omega arith

    pub group-is : (s : ℕ) → s < n → group_at starts places s ≡ group s
    group-is s low =
        let e : n - s ≡ suc (n - (s + 1)) = omega arith in
        let rest : List ℕ = flat_map group (range_with_len (s + 1) (n - (s + 1))) in
        let all : places ≡ joined_groups group s ++ (group s ++ rest) =
        are.places_are ∙ joined-split s n (omega arith) ∙ ap (λ (k : ℕ). joined_groups group s ++ flat_map group (range_with_len s k)) e in
        let size = next_start s low in
        (λ j. take (get_or starts (s + 1) 0 - get_or starts s 0) (drop (get_or starts s 0) (all j)))
        ∙ ap (take (get_or starts (s + 1) 0 - get_or starts s 0)) (drop_at (joined_groups group s) (group s ++ rest) (get_or starts s 0) (sym (start s (omega arith))))
        ∙ take_at (group s) rest (get_or starts (s + 1) 0 - get_or starts s 0) (omega arith)

    pub groups-rising : AreRising starts places
    groups-rising s low =
        let count : length starts ≡ n + 1 = ap length are.starts_are ∙ length-map-range_with_len (λ s. length (joined_groups group s)) 0 (n + 1) in
        let size = next_start s (omega arith) in
        let b = start (s + 1) (omega arith) in
        let e = ap length (are.places_are ∙ joined-split (s + 1) n (omega arith)) ∙ length-append (joined_groups group (s + 1)) (flat_map group (range_with_len (s + 1) (n - (s + 1)))) in
        (omega arith, omega arith)

-- the table

-- a group that is made of its key
group_in-map : (made : List ℕ → List ℕ) (keys : List (List ℕ)) (numbers : List ℕ) → group_in keys (map made keys) numbers ≡ (if list_any (same_numbers numbers) keys then made numbers else [])
group_in-map made [] numbers = refl
group_in-map made (k ∷ keys) numbers = by (same_numbers numbers k) refl (group_in-map made keys numbers)
  where
    by : (b : Bool) → same_numbers numbers k ≡ b → group_in keys (map made keys) numbers ≡ (if list_any (same_numbers numbers) keys then made numbers else [])
        → (if b then made k else group_in keys (map made keys) numbers) ≡ (if b || list_any (same_numbers numbers) keys then made numbers else [])
    by true e rest = ap made (sym (same_is numbers k e))
    by false e rest = rest

-- the numbers are one number, which has a slot
abbrev pub HasSlot : ℕ → ℕ → List ℕ → Type 0
HasSlot least span numbers = (length numbers ≡ 1) × (least ≤ get_or numbers 0 0) × (get_or numbers 0 0 < least + span)

pub one_number : (numbers : List ℕ) → length numbers ≡ 1 → numbers ≡ get_or numbers 0 0 ∷ []
one_number [] e = absurd (omega arith)
one_number (n ∷ []) e = refl
one_number (n ∷ m ∷ numbers) e = absurd (omega arith)

module _ (least span : ℕ) (numbers : List ℕ) where
  key-of : list_any (same_numbers numbers) (slot_keys least span) ≡ true → HasSlot least span numbers
  key-of e =
      let a = Any-from_list_any (same_numbers numbers) (slot_keys least span) e in
      let count = length-map-range_with_len (λ (n : ℕ). n ∷ []) least span in
      let low : a.0 < span = let h = a.2 in omega arith in
      let is = same_is numbers a.1 a.4 ∙ sym a.3 ∙ get_or-map-range_with_len (λ n. n ∷ []) least span a.0 (least + a.0) a.1 low refl in
      let n : get_or numbers 0 0 ≡ least + a.0 = ap (λ (l : List ℕ). get_or l 0 0) is in
      (ap length is, omega arith, omega arith)

  key-in : HasSlot least span numbers → list_any (same_numbers numbers) (slot_keys least span) ≡ true
  key-in has =
      let n = get_or numbers 0 0 in
      let from = has.1 in
      let low = has.2 in
      let count = length-map-range_with_len (λ (n : ℕ). n ∷ []) least span in
      let e : least + (n - least) ≡ n = omega arith in
      list_any_at (same_numbers numbers) (slot_keys least span) (n - least) [] (omega arith)
      (is_same numbers (get_or (slot_keys least span) (n - least) []) (one_number numbers has.0 ∙ sym (get_or-map-range_with_len (λ n. n ∷ []) least span (n - least) n [] (omega arith) e)))

  -- what a table of these slots has under the numbers
  module _ (starts places : List ℕ) (table : PlaceTable) (is : slot_table least span starts places ≡ table) where
    looked_up : (b : Bool) → list_any (same_numbers numbers) (slot_keys least span) ≡ b
        → (if b then group_at starts places (get_or numbers 0 0 - least) else []) ≡ group_of table.keyed numbers
    looked_up b e =
        let made = λ (key : List ℕ). group_at starts places (get_or key 0 0 - least) in
        sym (group_in-map made (slot_keys least span) numbers ∙ ap (λ (b : Bool). if b then made numbers else []) e) ∙ ap (λ (t : PlaceTable). group_of t.keyed numbers) is

    pub found : HasSlot least span numbers → group_at starts places (get_or numbers 0 0 - least) ≡ group_of table.keyed numbers
    found has = looked_up true (key-in has)

    pub not_found : (HasSlot least span numbers → ⊥) → [] ≡ group_of table.keyed numbers
    not_found none = by (list_any (same_numbers numbers) (slot_keys least span)) refl
      where
        by : (b : Bool) → list_any (same_numbers numbers) (slot_keys least span) ≡ b → [] ≡ group_of table.keyed numbers
        by true e = absurd (none (key-of e))
        by false e = looked_up false e

filter_none : (xs : List ℕ) → filter (λ i. false) xs ≡ []
filter_none [] = refl
filter_none (x ∷ xs) = filter_none xs

module _ (rows : List (Solution ℕ)) (v least span : ℕ) (between : AreBetween rows v least (least + span)) where
  -- what holds of an unbound cell, and of each number that has a slot
  by_cell : (P : Option ℕ → Type 0) → P None → ((m : ℕ) → least ≤ m → m < least + span → P (Some m)) → (i : ℕ) → P (cell_at rows v i)
  by_cell P none some i = by (cell_at rows v i) (between i)
    where
      by : (x : Option ℕ) → ((m : ℕ) → x ≡ Some m → (least ≤ m) × (m < least + span)) → P x
      by None h = none
      by (Some m) h = some m (h m refl).0 (h m refl).1

  -- a row is in the slot of a number exactly if it has its key
  slot-key : (n : ℕ) → least ≤ n → n < least + span → (i : ℕ) → nat_eq (slot_at rows v least span i) (n - least) ≡ has_key (v ∷ []) (n ∷ []) (get_or rows i [])
  slot-key n from low =
      by_cell (λ x. nat_eq (slot_of least span x) (n - least) ≡ has_key (0 ∷ []) (n ∷ []) (x ∷ []))
      (unequal-if span (n - least) (λ e. omega arith))
      (λ m a b. elim (eqb_tells n m) [
        | inl t ↦ let e = t.1 in equal-if (m - least) (n - least) (omega arith) ∙ sym (ap (λ c. c && true) (equal-if n m e))
        | inr t ↦ let e = t.1 in unequal-if (m - least) (n - least) (λ z. omega (arith, e)) ∙ sym (ap (λ c. c && true) (unequal-if n m e))
      ])

  -- it is in the last slot exactly if it has no key
  slot-open : (i : ℕ) → nat_eq (slot_at rows v least span i) span ≡ not (is_keyed (v ∷ []) (get_or rows i []))
  slot-open =
      by_cell (λ x. nat_eq (slot_of least span x) span ≡ not (is_some x && true)) (equal-if span span refl) (λ m a b. unequal-if (m - least) span (λ e. omega arith))

  -- no row has any other key
  no_row : (numbers : List ℕ) → (HasSlot least span numbers → ⊥) → [] ≡ places_where (has_key (v ∷ []) numbers) rows
  no_row numbers none = sym ((λ j. filter (λ i. never i j) (range_with_len 0 (length rows))) ∙ filter_none (range_with_len 0 (length rows)))
    where
      never : (i : ℕ) → has_key (v ∷ []) numbers (get_or rows i []) ≡ false
      never =
          by_cell (λ x. has_key (0 ∷ []) numbers (x ∷ []) ≡ false) (has_key-unkeyed (0 ∷ []) (None ∷ []) refl numbers)
          (λ m a b. has_key-numbers (0 ∷ []) (m ∷ []) (Some m ∷ []) refl numbers ∙ not_same numbers (m ∷ [])
          (λ e. let n : get_or numbers 0 0 ≡ m = ap (λ (l : List ℕ). get_or l 0 0) e in none (ap length e, omega arith, omega arith)))

  -- the table of the rows
  pub slot_table-is : (starts places : List ℕ) → AreGroups (λ s. places_in (slot_at rows v least span) (length rows) s 0) (span + 1) starts places
      → IsTableOf (v ∷ []) rows (slot_table least span starts places)
  slot_table-is starts places groups =
      (λ numbers. keyed numbers (list_any (same_numbers numbers) (slot_keys least span)) refl, in_slot span (omega arith) ∙ (λ j. filter (λ i. slot-open i j) (range_with_len 0 (length rows))))
    where
      in_slot : (s : ℕ) → s < span + 1 → group_at starts places s ≡ filter (λ i. nat_eq (slot_at rows v least span i) s) (range_with_len 0 (length rows))
      in_slot s low =
          group-is (λ s. places_in (slot_at rows v least span) (length rows) s 0) (span + 1) starts places groups s low ∙ places_in-all (slot_at rows v least span) (length rows) s

      keyed : (numbers : List ℕ) (b : Bool) → list_any (same_numbers numbers) (slot_keys least span) ≡ b
          → group_of (slot_table least span starts places).keyed numbers ≡ places_where (has_key (v ∷ []) numbers) rows
      keyed numbers true e =
          let has = key-of least span numbers e in
          let n = get_or numbers 0 0 in
          let from = has.1 in
          let low = has.2 in
          sym (found least span numbers starts places _ refl has) ∙ in_slot (n - least) (omega arith)
          ∙ (λ j. filter (λ i. slot-key n from low i j) (range_with_len 0 (length rows)))
          ∙ ap (λ (l : List ℕ). places_where (has_key (v ∷ []) l) rows) (sym (one_number numbers has.0))
      keyed numbers false e =
          let none = λ (has : HasSlot least span numbers). true≢false (sym (key-in least span numbers has) ∙ e) in
          sym (not_found least span numbers starts places _ refl none) ∙ no_row numbers none
