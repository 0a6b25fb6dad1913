-- One iteration of each loop: one more right row, or one more left row.
use Rattle.std.proofs.Common.{◌≡◌, ℕ, zero, suc, ◌+◌, ◌-◌, ◌<◌, ◌≤◌, Bool, true, false, not, cond, ◌&&◌, ◌||◌, List, [], ◌∷◌, ◌++◌, length, map, filter, flat_map, take, drop, get_or, nat_eq, if◌then◌else◌, refl, sym, ap, subst, ◌∙◌, arith, append_assoc}
use Rattle.std.specs.List.{list_all}
use Rattle.std.proofs.lemmas.Bool.{and_parts}
use Rattle.std.proofs.lemmas.List.{append-nil, length-append, take-map, drop-map, get_or-drop, length-drop}
use Rattle.std.proofs.lemmas.List.Elements.{filter-append}
use Rattle.std.proofs.lemmas.List.Folds.{list_all-append, list_all-map, list_all_at, flat_map-map}
use Rattle.std.proofs.lemmas.List.Sorted.{IsPermutation-refl, IsPermutation-append, IsPermutation-trans}
use Rattle.std.proofs.lemmas.Grind.{flat_map-append}
use Rattle.std.proofs.Math.Seq.{take-suc}
use Rattle.algebra_model.specs.Bag.{IsSameBag}
use Rattle.algebra_model.specs.Pieces.{joined}
use Rattle.algebra_model.specs.Solution.{Solution, is_compatible, merge}
use Rattle.algebra_model.specs.Operators.{merges, share}
use Rattle.algebra_model.specs.Solve.{alone}
use Rattle.row_join.specs.Numbers.{passes, all_pass}
use Rattle.row_join.specs.Pairing.{is_apart, row_if}
use Rattle.row_join.specs.Places.{rows_at}
use Rattle.row_join.proofs.PairLaws.{rows_at-more, merges-more}

-- ν, the right row of this iteration, is at the place that is item i of the list of places
module _ (rows : List (Solution ℕ)) (places : List ℕ) (i : ℕ) (μ ν : Solution ℕ) (low : i < length places) (is_row : get_or rows (get_or places i 0) [] ≡ ν) where
  rows_more : rows_at rows (take (i + 1) places) ≡ rows_at rows (take i places) ++ ν ∷ []
  rows_more = rows_at-more rows places i low ∙ ap (λ (x : Solution ℕ). rows_at rows (take i places) ++ x ∷ []) is_row

  -- a right row that removes the left row
  differs : Solution ℕ → Bool
  differs = λ ξ. not (is_compatible nat_eq μ ξ) || not (share μ ξ)

  pub apart-turn : (b s : Bool) → b ≡ is_compatible nat_eq μ ν → s ≡ share μ ν → (not b || not s) ≡ true
      → is_apart (rows_at rows (take i places)) μ ≡ true → is_apart (rows_at rows (take (i + 1) places)) μ ≡ true
  apart-turn b s e f h k =
      ap (list_all (λ ξ. not (is_compatible nat_eq μ ξ) || not (share μ ξ))) rows_more
      ∙ list_all-append (λ ξ. not (is_compatible nat_eq μ ξ) || not (share μ ξ)) (rows_at rows (take i places)) (ν ∷ [])
      ∙ (λ j. k j && ((not (sym e j) || not (sym f j)) && true))
      ∙ ap (λ c. c && true) h

  pub apart-not : (b s : Bool) → b ≡ is_compatible nat_eq μ ν → s ≡ share μ ν → b ≡ true → s ≡ true
      → false ≡ is_apart (rows_at rows places) μ
  apart-not b s e f h k =
      sym (list_all-map (λ ξ. not (is_compatible nat_eq μ ξ) || not (share μ ξ)) (λ (p : ℕ). get_or rows p []) places
      ∙ list_all_at (λ (p : ℕ). not (is_compatible nat_eq μ (get_or rows p [])) || not (share μ (get_or rows p []))) places i 0 low
      (ap (λ (x : Solution ℕ). not (is_compatible nat_eq μ x) || not (share μ x)) is_row ∙ (λ j. not ((sym e ∙ h) j) || not ((sym f ∙ k) j))))

  -- what the condition keeps of this iteration's merge
  pub kept-turn : (keeps : Solution ℕ → Bool) (old made made' : List (Solution ℕ)) (b k : Bool) → b ≡ is_compatible nat_eq μ ν
      → (b ≡ true → k ≡ keeps (merge μ ν))
      → made ≡ old ++ filter keeps (merges nat_eq μ (rows_at rows (take i places)))
      → made' ≡ made ++ row_if (b && k) (merge μ ν)
      → made' ≡ old ++ filter keeps (merges nat_eq μ (rows_at rows (take (i + 1) places)))
  kept-turn keeps old made made' b k e f h g =
      g ∙ ap (λ (l : List (Solution ℕ)). l ++ row_if (b && k) (merge μ ν)) h
      ∙ append_assoc old (filter keeps (merges nat_eq μ (rows_at rows (take i places)))) (row_if (b && k) (merge μ ν))
      ∙ ap (λ (l : List (Solution ℕ)). old ++ (filter keeps (merges nat_eq μ (rows_at rows (take i places))) ++ l)) (sym (one b k f))
      ∙ ap (λ (l : List (Solution ℕ)). old ++ l)
      (sym (ap (filter keeps) (ap (merges nat_eq μ) rows_more ∙ merges-more μ ν (rows_at rows (take i places)) b e)
      ∙ filter-append keeps (merges nat_eq μ (rows_at rows (take i places))) (if b then merge μ ν ∷ [] else [])))
    where
      kept_one : (c : Bool) → cond c (merge μ ν ∷ []) [] ≡ row_if c (merge μ ν)
      kept_one true = refl
      kept_one false = refl

      one : (b k : Bool) → (b ≡ true → k ≡ keeps (merge μ ν)) → filter keeps (if b then merge μ ν ∷ [] else []) ≡ row_if (b && k) (merge μ ν)
      one true k f = ap (λ c. cond c (merge μ ν ∷ []) []) (sym (f refl)) ∙ kept_one k
      one false k f = refl

  pub alone-turn : (keeps : Solution ℕ → Bool) (was now b k : Bool) → b ≡ is_compatible nat_eq μ ν
      → (b ≡ true → k ≡ keeps (merge μ ν))
      → was ≡ alone nat_eq keeps (rows_at rows (take i places)) μ
      → now ≡ (was && not (b && k))
      → now ≡ alone nat_eq keeps (rows_at rows (take (i + 1) places)) μ
  alone-turn keeps was now b k e f h g =
      g ∙ (λ j. h j && (step b k f ∙ ap (λ c. not (c && keeps (merge μ ν)) && true) e) j)
      ∙ sym (ap (list_all (λ ξ. not (is_compatible nat_eq μ ξ && keeps (merge μ ξ)))) rows_more
      ∙ list_all-append (λ ξ. not (is_compatible nat_eq μ ξ && keeps (merge μ ξ))) (rows_at rows (take i places)) (ν ∷ []))
    where
      same : (c : Bool) → c ≡ (c && true)
      same true = refl
      same false = refl

      step : (b k : Bool) → (b ≡ true → k ≡ keeps (merge μ ν)) → not (b && k) ≡ (not (b && keeps (merge μ ν)) && true)
      step true k f = ap not (f refl) ∙ same (not (keeps (merge μ ν)))
      step false k f = refl

-- a row of rows whose numbers all pass
pub row_passes : (p : ℕ → Bool) (rows : List (Solution ℕ)) (i : ℕ) → all_pass p rows ≡ true → passes p (get_or rows i []) ≡ true
row_passes p [] i h = refl
row_passes p (μ ∷ rows) zero h = (and_parts (passes p μ) (all_pass p rows) h).0
row_passes p (μ ∷ rows) (suc i) h = row_passes p rows i (and_parts (passes p μ) (all_pass p rows) h).1

-- rows to which one row was added at the end
module _ (μ : Solution ℕ) (old rows : List (Solution ℕ)) (added : rows ≡ old ++ μ ∷ []) where
  last_place : length rows - 1 ≡ length old
  last_place = let e : length rows ≡ length old + 1 = ap length added ∙ length-append old (μ ∷ []) in omega arith

  pub last_added : get_or rows (length rows - 1) [] ≡ μ
  last_added = (λ j. get_or (added j) (last_place j) []) ∙ at_end old
    where
      at_end : (old : List (Solution ℕ)) → get_or (old ++ μ ∷ []) (length old) [] ≡ μ
      at_end [] = refl
      at_end (ν ∷ old) = at_end old

  pub without_last : take (length rows - 1) rows ≡ old
  without_last = (λ j. take (last_place j) (added j)) ∙ before old
    where
      before : (old : List (Solution ℕ)) → take (length old) (old ++ μ ∷ []) ≡ old
      before [] = refl
      before (ν ∷ old) = ap (λ (l : List (Solution ℕ)). ν ∷ l) (before old)

-- one more left row
module _ (gives : Solution ℕ → List (Solution ℕ)) (left : List (Solution ℕ)) where
  pub left-turn : (from i : ℕ) (made made' : List (Solution ℕ)) → from ≤ i → i < length left
      → IsSameBag made (flat_map gives (take (i - from) (drop from left)))
      → IsSameBag made' (made ++ gives (get_or left i []))
      → IsSameBag made' (flat_map gives (take (i + 1 - from) (drop from left)))
  left-turn from i made made' le low h k =
      let μ : Solution ℕ = get_or left i [] in
      let n : i + 1 - from ≡ suc (i - from) = omega arith in
      let s : from + (i - from) ≡ i = omega arith in
      let l = length-drop from left in
      let here : get_or (drop from left) (i - from) [] ≡ μ =
      get_or-drop from left (i - from) [] ∙ ap (λ (x : ℕ). get_or left x []) s in
      let more : take (i + 1 - from) (drop from left) ≡ take (i - from) (drop from left) ++ μ ∷ [] =
      ap (λ (x : ℕ). take x (drop from left)) n ∙ take-suc (drop from left) (i - from) [] (omega arith) ∙ ap (λ (x : Solution ℕ). take (i - from) (drop from left) ++ x ∷ []) here in
      let parts : flat_map gives (take (i + 1 - from) (drop from left)) ≡ flat_map gives (take (i - from) (drop from left)) ++ gives μ =
      ap (flat_map gives) more ∙ flat_map-append gives (take (i - from) (drop from left)) (μ ∷ [])
      ∙ ap (λ (x : List (Solution ℕ)). flat_map gives (take (i - from) (drop from left)) ++ x) (append-nil (gives μ)) in
      subst (λ (x : List (Solution ℕ)). IsSameBag made' x) (sym parts)
      (IsPermutation-trans made' (made ++ gives μ) (flat_map gives (take (i - from) (drop from left)) ++ gives μ) k
      (IsPermutation-append made (flat_map gives (take (i - from) (drop from left))) (gives μ) (gives μ) h (IsPermutation-refl (gives μ))))

  -- all rows of a piece
  pub left-piece : (from i to : ℕ) (made : List (Solution ℕ)) → i ≡ to → IsSameBag made (flat_map gives (take (i - from) (drop from left)))
      → IsSameBag made (joined (take (to - from) (drop from (map gives left))))
  left-piece from i to made e h =
      let parts : flat_map gives (take (i - from) (drop from left)) ≡ joined (take (to - from) (drop from (map gives left))) =
      ap (λ (x : ℕ). flat_map gives (take (x - from) (drop from left))) e
      ∙ sym (flat_map-map (λ (part : List (Solution ℕ)). part) gives (take (to - from) (drop from left)))
      ∙ ap joined (sym (ap (take (to - from)) (drop-map gives from left) ∙ take-map gives (to - from) (drop from left))) in
      subst (λ (x : List (Solution ℕ)). IsSameBag made x) parts h

  pub left-all : (rows : List (Solution ℕ)) → IsSameBag rows (joined (map gives left)) → IsSameBag rows (flat_map gives left)
  left-all rows h = subst (λ (x : List (Solution ℕ)). IsSameBag rows x) (flat_map-map (λ (part : List (Solution ℕ)). part) gives left) h

  pub length-gives : length (map gives left) ≡ length left
  length-gives = go left
    where
      go : (l : List (Solution ℕ)) → length (map gives l) ≡ length l
      go [] = refl
      go (x ∷ l) = ap suc (go l)
