-- What one left row gives, place by place and as a multiset, and its numbers.
use Rattle.std.proofs.Common.{◌≡◌, ℕ, ◌+◌, ◌<◌, ◌≤◌, Bool, true, false, cond, List, [], ◌∷◌, ◌++◌, length, map, filter, flat_map, take, get_or, nat_eq, if◌then◌else◌, refl, sym, ap, subst, ◌∙◌, append_assoc}
use Rattle.std.proofs.lemmas.List.{take_all, map-append, map_more}
use Rattle.std.proofs.lemmas.List.Elements.{filter-append}
use Rattle.std.proofs.lemmas.List.Sorted.{IsPermutation-refl, IsPermutation-append}
use Rattle.algebra_model.specs.Bag.{IsSameBag}
use Rattle.algebra_model.specs.Solution.{Solution, is_compatible, merge}
use Rattle.algebra_model.specs.Operators.{merges}
use Rattle.algebra_model.specs.Solve.{alone, left_row}
use Rattle.algebra_model.specs.Keys.{may_meet}
use Rattle.algebra_model.proofs.CongruenceLaws.{filter-IsSameBag}
use Rattle.algebra_model.proofs.KeyLaws.{may_meet-covers, merges-tried, alone-tried, apart-tried}
use Rattle.std.proofs.lemmas.Bool.Decides.{Decides-eqb}
use Rattle.row_join.specs.Pairing.{is_apart, row_if}
use Rattle.row_join.specs.Places.{rows_at}

-- with one more place
pub rows_at-more : (rows : List (Solution ℕ)) (places : List ℕ) (i : ℕ) → i < length places
    → rows_at rows (take (i + 1) places) ≡ rows_at rows (take i places) ++ get_or rows (get_or places i 0) [] ∷ []
rows_at-more rows places i h = map_more (λ (k : ℕ). get_or rows k []) places i 0 h

pub merges-more : (μ ν : Solution ℕ) (rows : List (Solution ℕ)) (b : Bool) → b ≡ is_compatible nat_eq μ ν
    → merges nat_eq μ (rows ++ ν ∷ []) ≡ merges nat_eq μ rows ++ (if b then merge μ ν ∷ [] else [])
merges-more μ ν rows b e =
    ap (map (merge μ)) (filter-append (is_compatible nat_eq μ) rows (ν ∷ []))
    ∙ map-append (merge μ) (filter (is_compatible nat_eq μ) rows) (filter (is_compatible nat_eq μ) (ν ∷ []))
    ∙ ap (λ (l : List (Solution ℕ)). merges nat_eq μ rows ++ l) (ap (λ c. map (merge μ) (cond c (ν ∷ []) [])) (sym e) ∙ by b)
  where
    by : (b : Bool) → map (merge μ) (cond b (ν ∷ []) []) ≡ (if b then merge μ ν ∷ [] else [])
    by true = refl
    by false = refl

-- the left rows that pass a test, each as a list
pub rows_if : (p : Solution ℕ → Bool) (A : List (Solution ℕ)) → flat_map (λ μ. row_if (p μ) μ) A ≡ filter p A
rows_if p [] = refl
rows_if p (μ ∷ A) = by (p μ) (rows_if p A)
  where
    by : (b : Bool) → flat_map (λ μ. row_if (p μ) μ) A ≡ filter p A → row_if b μ ++ flat_map (λ μ. row_if (p μ) μ) A ≡ cond b (μ ∷ filter p A) (filter p A)
    by true e = ap (λ (l : List (Solution ℕ)). μ ∷ l) e
    by false e = e

appended : (old : List (Solution ℕ)) (a b : List (Solution ℕ)) → IsSameBag a b → IsSameBag (old ++ a) (old ++ b)
appended old a b h = IsPermutation-append old old a b (IsPermutation-refl old) h

-- the candidates for a left row are sufficient
module _ (key : List ℕ) (μ : Solution ℕ) (rows : List (Solution ℕ)) (places : List ℕ) (tried : IsSameBag (rows_at rows places) (filter (may_meet nat_eq key μ) rows)) where
  -- the merges that a condition keeps
  pub kept-tried : (n : ℕ) → length places ≤ n → (keeps : Solution ℕ → Bool) (old made : List (Solution ℕ))
      → made ≡ old ++ filter keeps (merges nat_eq μ (rows_at rows (take n places))) → IsSameBag made (old ++ filter keeps (merges nat_eq μ rows))
  kept-tried n all keeps old made e =
      subst (λ (l : List (Solution ℕ)). IsSameBag l (old ++ filter keeps (merges nat_eq μ rows)))
      (sym (e ∙ ap (λ (ps : List ℕ). old ++ filter keeps (merges nat_eq μ (rows_at rows ps))) (take_all n places all)))
      (appended old (filter keeps (merges nat_eq μ (rows_at rows places))) (filter keeps (merges nat_eq μ rows))
      (filter-IsSameBag nat_eq Decides-eqb keeps (merges nat_eq μ (rows_at rows places)) (merges nat_eq μ rows)
      (merges-tried nat_eq μ (may_meet nat_eq key μ) (may_meet-covers nat_eq key μ) (rows_at rows places) rows tried Decides-eqb)))

  -- a left row that gives no merge with them, and one that none of them removes
  pub tried-alone : (n : ℕ) → length places ≤ n → (keeps : Solution ℕ → Bool) (b : Bool) → b ≡ alone nat_eq keeps (rows_at rows (take n places)) μ → b ≡ alone nat_eq keeps rows μ
  tried-alone n all keeps b e =
      e ∙ ap (λ (ps : List ℕ). alone nat_eq keeps (rows_at rows ps) μ) (take_all n places all)
      ∙ alone-tried nat_eq μ (may_meet nat_eq key μ) (may_meet-covers nat_eq key μ) (rows_at rows places) rows tried keeps

  pub tried-apart : is_apart (rows_at rows places) μ ≡ is_apart rows μ
  tried-apart = apart-tried nat_eq μ (may_meet nat_eq key μ) (may_meet-covers nat_eq key μ) (rows_at rows places) rows tried

-- a condition that is true of every row
pub filter-every : (rows : List (Solution ℕ)) → filter (λ μ. true) rows ≡ rows
filter-every [] = refl
filter-every (μ ∷ rows) = ap (λ (l : List (Solution ℕ)). μ ∷ l) (filter-every rows)

-- the kept merges of a left row, and then the row itself if there are none
pub left_row-added : (keeps : Solution ℕ → Bool) (rows : List (Solution ℕ)) (μ : Solution ℕ) (old merged made : List (Solution ℕ))
    → IsSameBag merged (old ++ filter keeps (merges nat_eq μ rows)) → made ≡ merged ++ row_if (alone nat_eq keeps rows μ) μ
    → IsSameBag made (old ++ left_row nat_eq keeps rows μ)
left_row-added keeps rows μ old merged made h e =
    let kept = filter keeps (merges nat_eq μ rows) in
    let itself = row_if (alone nat_eq keeps rows μ) μ in
    subst (λ (l : List (Solution ℕ)). IsSameBag l (old ++ left_row nat_eq keeps rows μ)) (sym e)
    (subst (λ (l : List (Solution ℕ)). IsSameBag (merged ++ itself) l) (append_assoc old kept itself)
    (IsPermutation-append merged (old ++ kept) itself itself h (IsPermutation-refl itself)))
