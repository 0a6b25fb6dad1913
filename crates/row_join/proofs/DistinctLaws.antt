-- Distinct, with one more row, and rows as keys of numbers.
use Rattle.std.proofs.Common.{◌≡◌, ℕ, suc, ◌+◌, ◌*◌, ◌<◌, Bool, true, false, cond, not, ◌&&◌, ◌||◌, List, [], ◌∷◌, ◌++◌, filter, map, nat_eq, Decides, Option, None, Some, refl, sym, ap, ◌∙◌, append-nil, if◌then◌else◌, length, get_or, take, slice_get, arith, ⊎_elim}
use Rattle.std.specs.Cmp.{both_ways}
use Rattle.std.specs.List.{list_any, position_or_len}
use Rattle.std.proofs.lemmas.Bool.{cases_Bool}
use Rattle.std.proofs.lemmas.Bool.Decides.{Decides-eqb}
use Rattle.std.proofs.lemmas.List.{map-append, take_more, length-append, length-map}
use Rattle.std.proofs.lemmas.List.Concat.{flat_map-append}
use Rattle.std.proofs.lemmas.List.Elements.{filter-append}
use Rattle.algebra_model.specs.Bag.{without_repeats}
use Rattle.algebra_model.specs.Operators.{distinct}
use Rattle.algebra_model.specs.Solution.{Solution, same_solution}
use Rattle.algebra_model.proofs.BgpLaws.{solution_decides}
use Rattle.algebra_model.proofs.RepeatLaws.{any-map, any-without_repeats_is}
use Rattle.row_core.proofs.TurnLaws.{take_more_get}
use Rattle.row_join.specs.KeyTable.{place_of, same_numbers, with_key}
use Rattle.row_join.specs.RowKeys.{cell_numbers, row_numbers}

module _ {X : Type 0} (same : X → X → Bool) (decides : (x y : X) → Decides (same x y) (x ≡ y)) where
  symmetric : (x y : X) → same y x ≡ same x y
  symmetric x y = both_ways (same y x) (same x y) (λ e. (decides x y).1 (sym ((decides y x).0 e))) (λ e. (decides y x).1 (sym ((decides x y).0 e)))

  without_repeats-push : (xs : List X) (x : X) → without_repeats same (xs ++ x ∷ []) ≡ (if list_any (same x) xs then without_repeats same xs else without_repeats same xs ++ x ∷ [])
  without_repeats-push [] x = refl
  without_repeats-push (y ∷ xs) x =
      ap (λ r. y ∷ filter (λ z. not (same y z)) r) (without_repeats-push xs x) ∙ by (same x y) (list_any (same x) xs) (symmetric x y)
    where
      by : (a b : Bool) → same y x ≡ a → y ∷ filter (λ z. not (same y z)) (if b then without_repeats same xs else without_repeats same xs ++ x ∷ []) ≡ (if a || b then y ∷ filter (λ z. not (same y z)) (without_repeats same xs) else y ∷ filter (λ z. not (same y z)) (without_repeats same xs) ++ x ∷ [])
      by true true e = refl
      by false true e = refl
      by true false e =
          ap (λ r. y ∷ r) (filter-append (λ z. not (same y z)) (without_repeats same xs) (x ∷ []) ∙ ap (λ b. filter (λ z. not (same y z)) (without_repeats same xs) ++ cond (not b) (x ∷ []) []) e ∙ append-nil (filter (λ z. not (same y z)) (without_repeats same xs)))
      by false false e =
          ap (λ r. y ∷ r) (filter-append (λ z. not (same y z)) (without_repeats same xs) (x ∷ []) ∙ ap (λ b. filter (λ z. not (same y z)) (without_repeats same xs) ++ cond (not b) (x ∷ []) []) e)

number_decides : (μ ν : Solution ℕ) → Decides (same_solution nat_eq μ ν) (μ ≡ ν)
number_decides = solution_decides nat_eq Decides-eqb

-- the keys of two rows are equal exactly if the rows are
numbers-same : (x y : Solution ℕ) → same_numbers (row_numbers x) (row_numbers y) ≡ same_solution nat_eq x y
numbers-same [] [] = refl
numbers-same [] (None ∷ y) = refl
numbers-same [] (Some n ∷ y) = refl
numbers-same (None ∷ x) [] = refl
numbers-same (Some n ∷ x) [] = refl
numbers-same (None ∷ x) (None ∷ y) = numbers-same x y
numbers-same (None ∷ x) (Some m ∷ y) = refl
numbers-same (Some n ∷ x) (None ∷ y) = refl
numbers-same (Some n ∷ x) (Some m ∷ y) = ap (λ b. nat_eq n m && b) (numbers-same x y)

any-numbers : (x : Solution ℕ) (made : List (Solution ℕ)) → list_any (same_numbers (row_numbers x)) (map row_numbers made) ≡ list_any (same_solution nat_eq x) made
any-numbers x made = any-map (same_numbers (row_numbers x)) row_numbers made ∙ (λ j. list_any (λ y. numbers-same x y j) made)

equal-suc : (a b : ℕ) → nat_eq (suc a) (suc b) ≡ nat_eq a b
equal-suc a b =
    both_ways (nat_eq (suc a) (suc b)) (nat_eq a b)
    (λ e. let s : suc a ≡ suc b = (Decides-eqb (suc a) (suc b)).0 e in (Decides-eqb a b).1 (omega arith))
    (λ e. (Decides-eqb (suc a) (suc b)).1 (ap suc ((Decides-eqb a b).0 e)))

pub equal-if : (a b : ℕ) → a ≡ b → nat_eq a b ≡ true
equal-if a b e = (Decides-eqb a b).1 e

pub unequal-if : (a b : ℕ) → (a ≡ b → ⊥) → nat_eq a b ≡ false
unequal-if a b n = ⊎_elim (λ (t : nat_eq a b ≡ true). absurd (n ((Decides-eqb a b).0 t))) (λ (f : nat_eq a b ≡ false). f) (cases_Bool (nat_eq a b))

-- an element is at the end of its places exactly if it is nowhere
last-if-new : {X : Type 0} (p : X → Bool) (xs : List X) → nat_eq (position_or_len p xs) (length xs) ≡ not (list_any p xs)
last-if-new p [] = refl
last-if-new {X} p (x ∷ xs) = by (p x) (last-if-new p xs)
  where
    by : (b : Bool) → nat_eq (position_or_len p xs) (length xs) ≡ not (list_any p xs)
        → nat_eq (cond (not b) (1 + position_or_len p xs) 0) (suc (length xs)) ≡ not (b || list_any p xs)
    by true h = unequal-if 0 (suc (length xs)) (λ (e : 0 ≡ suc (length xs)). omega arith)
    by false h =
        let n : 1 + position_or_len p xs ≡ suc (position_or_len p xs) = omega arith in
        ap (λ (k : ℕ). nat_eq k (suc (length xs))) n ∙ equal-suc (position_or_len p xs) (length xs) ∙ h

-- one iteration: the row is added exactly if it is new
pub distinct-turn : (keys keys' : List (List ℕ)) (made made' R : List (Solution ℕ)) (i place : ℕ) (row : Solution ℕ) (b : Bool)
    → keys ≡ map row_numbers made → made ≡ distinct nat_eq (take i R) → slice_get R i ≡ Some row
    → place ≡ place_of (row_numbers row) keys → b ≡ nat_eq place (length made) → keys' ≡ with_key keys (row_numbers row)
    → made' ≡ (if b then made ++ row ∷ [] else made)
    → (made' ≡ distinct nat_eq (take (i + 1) R)) × (keys' ≡ map row_numbers made')
distinct-turn keys keys' made made' R i place row b held was at found is grown put =
    by (list_any (same_solution nat_eq row) made) new (grown ∙ (λ j. if old j then held j else held j ++ row_numbers row ∷ [])) next
  where
    old : list_any (same_numbers (row_numbers row)) keys ≡ list_any (same_solution nat_eq row) made
    old = ap (list_any (same_numbers (row_numbers row))) held ∙ any-numbers row made

    long : length made ≡ length keys
    long = sym (ap length held ∙ length-map made row_numbers)

    new : b ≡ not (list_any (same_solution nat_eq row) made)
    new = is ∙ (λ j. nat_eq (found j) (long j)) ∙ last-if-new (same_numbers (row_numbers row)) keys ∙ ap not old

    next : distinct nat_eq (take (i + 1) R) ≡ (if list_any (same_solution nat_eq row) made then made else made ++ row ∷ [])
    next =
        ap (distinct nat_eq) (take_more_get R i row at)
        ∙ without_repeats-push (same_solution nat_eq) number_decides (take i R) row
        ∙ (λ j. if sym (ap (list_any (same_solution nat_eq row)) was ∙ any-without_repeats_is (same_solution nat_eq) number_decides row (take i R)) j then sym was j else sym was j ++ row ∷ [])

    by : (s : Bool) → b ≡ not s → keys' ≡ (if s then map row_numbers made else map row_numbers made ++ row_numbers row ∷ [])
        → distinct nat_eq (take (i + 1) R) ≡ (if s then made else made ++ row ∷ [])
        → (made' ≡ distinct nat_eq (take (i + 1) R)) × (keys' ≡ map row_numbers made')
    by true n g d =
        let p : made' ≡ made = put ∙ ap (λ c. cond c (made ++ row ∷ []) made) n in
        (p ∙ sym d, g ∙ ap (map row_numbers) (sym p))
    by false n g d =
        let p : made' ≡ made ++ row ∷ [] = put ∙ ap (λ c. cond c (made ++ row ∷ []) made) n in
        (p ∙ sym d, g ∙ sym (ap (map row_numbers) p ∙ map-append row_numbers made (row ∷ [])))

-- the numbers of one more cell
pub numbers-more : (row : Solution ℕ) (i : ℕ) (old new numbers : List ℕ) → i < length row → old ≡ row_numbers (take i row)
    → numbers ≡ cell_numbers (get_or row i None) → new ≡ old ++ numbers → new ≡ row_numbers (take (i + 1) row)
numbers-more row i old new numbers low was is pushed =
    pushed ∙ (λ j. was j ++ is j)
    ∙ ap (λ (r : List ℕ). row_numbers (take i row) ++ r) (sym (append-nil (cell_numbers (get_or row i None))))
    ∙ sym (ap row_numbers (take_more row i None low) ∙ flat_map-append cell_numbers (take i row) (get_or row i None ∷ []))

length-cell : (cell : Option ℕ) → length (cell_numbers cell) ≡ 2
length-cell None = refl
length-cell (Some n) = refl

pub length-numbers : (row : Solution ℕ) → length (row_numbers row) ≡ length row * 2
length-numbers [] = refl
length-numbers (x ∷ row) =
    let a = length-append (cell_numbers x) (row_numbers row) in
    let c = length-cell x in
    let r = length-numbers row in
    omega arith
