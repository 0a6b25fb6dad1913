-- Every number in joined rows occurs in a row of either side.
use Rattle.std.proofs.Common.{◌≡◌, ℕ, Bool, true, false, not, cond, ◌&&◌, ◌||◌, List, [], ◌∷◌, ◌++◌, map, filter, nat_eq, Option, Some, None, refl, ap, ◌∙◌}
use Rattle.std.specs.List.{list_all}
use Rattle.std.proofs.lemmas.Bool.{and_parts}
use Rattle.std.proofs.lemmas.List.Folds.{list_all-append}
use Rattle.algebra_model.specs.Bag.{IsSameBag}
use Rattle.algebra_model.specs.Solution.{Solution, is_compatible, merge, bound_or}
use Rattle.algebra_model.specs.Operators.{merges, join, left_join, minus, share}
use Rattle.algebra_model.specs.Solve.{alone}
use Rattle.algebra_model.proofs.BagLaws.{list_all-IsPermutation}
use Rattle.row_join.specs.Numbers.{cell_passes, passes, all_pass}

module _ (p : ℕ → Bool) where
  both : (a b : Bool) → a ≡ true → b ≡ true → (a && b) ≡ true
  both a b e f = ap (λ c. c && b) e ∙ f

  pub passes-merge : (μ ν : Solution ℕ) → passes p μ ≡ true → passes p ν ≡ true → passes p (merge μ ν) ≡ true
  passes-merge [] ν h k = k
  passes-merge (x ∷ μ) [] h k = h
  passes-merge (x ∷ μ) (y ∷ ν) h k =
      let a = and_parts (cell_passes p x) (passes p μ) h in
      let b = and_parts (cell_passes p y) (passes p ν) k in
      both (cell_passes p (bound_or x y)) (passes p (merge μ ν)) (cell x y a.0 b.0) (passes-merge μ ν a.1 b.1)
    where
      cell : (x y : Option ℕ) → cell_passes p x ≡ true → cell_passes p y ≡ true → cell_passes p (bound_or x y) ≡ true
      cell None y a b = b
      cell (Some x) y a b = a

  pub all_pass-filter : (q : Solution ℕ → Bool) (A : List (Solution ℕ)) → all_pass p A ≡ true → all_pass p (filter q A) ≡ true
  all_pass-filter q [] h = refl
  all_pass-filter q (μ ∷ A) h =
      let a = and_parts (passes p μ) (all_pass p A) h in
      by (q μ) a.0 (all_pass-filter q A a.1)
    where
      by : (b : Bool) → passes p μ ≡ true → all_pass p (filter q A) ≡ true → all_pass p (cond b (μ ∷ filter q A) (filter q A)) ≡ true
      by true h r = both (passes p μ) (all_pass p (filter q A)) h r
      by false h r = r

  all_pass-append : (A B : List (Solution ℕ)) → all_pass p A ≡ true → all_pass p B ≡ true → all_pass p (A ++ B) ≡ true
  all_pass-append A B h k = list_all-append (passes p) A B ∙ both (all_pass p A) (all_pass p B) h k

  merged_pass : (μ : Solution ℕ) → passes p μ ≡ true → (B : List (Solution ℕ)) → all_pass p B ≡ true → all_pass p (map (merge μ) B) ≡ true
  merged_pass μ h [] k = refl
  merged_pass μ h (ν ∷ B) k =
      let b = and_parts (passes p ν) (all_pass p B) k in
      both (passes p (merge μ ν)) (all_pass p (map (merge μ) B)) (passes-merge μ ν h b.0) (merged_pass μ h B b.1)

  pub join_pass : (A B : List (Solution ℕ)) → all_pass p A ≡ true → all_pass p B ≡ true → all_pass p (join nat_eq A B) ≡ true
  join_pass [] B h k = refl
  join_pass (μ ∷ A) B h k =
      let a = and_parts (passes p μ) (all_pass p A) h in
      all_pass-append (merges nat_eq μ B) (join nat_eq A B)
      (merged_pass μ a.0 (filter (is_compatible nat_eq μ) B) (all_pass-filter (is_compatible nat_eq μ) B k)) (join_pass A B a.1 k)

  pub left_join_pass : (keeps : Solution ℕ → Bool) (A B : List (Solution ℕ)) → all_pass p A ≡ true → all_pass p B ≡ true → all_pass p (left_join nat_eq keeps A B) ≡ true
  left_join_pass keeps A B h k =
      all_pass-append (filter keeps (join nat_eq A B)) (filter (alone nat_eq keeps B) A)
      (all_pass-filter keeps (join nat_eq A B) (join_pass A B h k)) (all_pass-filter (alone nat_eq keeps B) A h)

  pub minus_pass : (A B : List (Solution ℕ)) → all_pass p A ≡ true → all_pass p (minus nat_eq A B) ≡ true
  minus_pass A B h = all_pass-filter (λ μ. list_all (λ ν. not (is_compatible nat_eq μ ν) || not (share μ ν)) B) A h

  -- the rows of one multiset
  pub bag_pass : (rows A : List (Solution ℕ)) → IsSameBag rows A → all_pass p A ≡ true → all_pass p rows ≡ true
  bag_pass rows A h k = list_all-IsPermutation (passes p) rows A h ∙ k

pub knows_row : (μ : Solution ℕ) → passes (λ n. true) μ ≡ true
knows_row [] = refl
knows_row (x ∷ μ) = both (λ n. true) (cell_passes (λ n. true) x) (passes (λ n. true) μ) (cell x) (knows_row μ)
  where
    cell : (x : Option ℕ) → cell_passes (λ n. true) x ≡ true
    cell None = refl
    cell (Some x) = refl

pub knows_all : (A : List (Solution ℕ)) → all_pass (λ n. true) A ≡ true
knows_all [] = refl
knows_all (μ ∷ A) = both (λ n. true) (passes (λ n. true) μ) (all_pass (λ n. true) A) (knows_row μ) (knows_all A)
