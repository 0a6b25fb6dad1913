-- A fact about every number in rows, as a test and by recursion. Callers have one form and need the
-- other.
use Rattle.std.proofs.Common.{◌≡◌, ℕ, ◌<◌, Bool, true, ◌&&◌, List, [], ◌∷◌, Some, None, nat_lt, refl, ap, ◌∙◌, arith}
use Rattle.std.proofs.lemmas.Bool.{and_parts}
use Rattle.std.proofs.lemmas.Bool.Decides.{nat_tests}
use Rattle.algebra_model.specs.Renaming.{Each, EachBound}
use Rattle.algebra_model.specs.Solution.{Solution}
use Rattle.row_join.specs.Numbers.{passes, all_pass}

both : (a b : Bool) → a ≡ true → b ≡ true → (a && b) ≡ true
both a b e f = ap (λ c. c && b) e ∙ f

module _ (P : ℕ → Type 0) (p : ℕ → Bool) where
  passes-from_EachBound : ((n : ℕ) → P n → p n ≡ true) → (μ : Solution ℕ) → EachBound P μ → passes p μ ≡ true
  passes-from_EachBound f [] h = refl
  passes-from_EachBound f (None ∷ μ) h = passes-from_EachBound f μ h
  passes-from_EachBound f (Some n ∷ μ) h = both (p n) (passes p μ) (f n h.0) (passes-from_EachBound f μ h.1)

  pub all_pass-from_Each : ((n : ℕ) → P n → p n ≡ true) → (rows : List (Solution ℕ)) → Each (EachBound P) rows → all_pass p rows ≡ true
  all_pass-from_Each f [] h = refl
  all_pass-from_Each f (μ ∷ rows) h = both (passes p μ) (all_pass p rows) (passes-from_EachBound f μ h.0) (all_pass-from_Each f rows h.1)

  EachBound-from_passes : ((n : ℕ) → p n ≡ true → P n) → (μ : Solution ℕ) → passes p μ ≡ true → EachBound P μ
  EachBound-from_passes f [] h = tt
  EachBound-from_passes f (None ∷ μ) h = EachBound-from_passes f μ h
  EachBound-from_passes f (Some n ∷ μ) h =
      let parts = and_parts (p n) (passes p μ) h in
      (f n parts.0, EachBound-from_passes f μ parts.1)

  pub Each-from_all_pass : ((n : ℕ) → p n ≡ true → P n) → (rows : List (Solution ℕ)) → all_pass p rows ≡ true → Each (EachBound P) rows
  Each-from_all_pass f [] h = tt
  Each-from_all_pass f (μ ∷ rows) h =
      let parts = and_parts (passes p μ) (all_pass p rows) h in
      (EachBound-from_passes f μ parts.0, Each-from_all_pass f rows parts.1)

-- numbers below a bound, such as those that number a term of a dictionary
below_true : (k n : ℕ) → n < k → nat_lt n k ≡ true
below_true k n h = grind (arith, nat_tests)

true_below : (k n : ℕ) → nat_lt n k ≡ true → n < k
true_below k n h = grind (arith, nat_tests)

pub all_pass-below : (k : ℕ) (rows : List (Solution ℕ)) → Each (EachBound (λ n. n < k)) rows → all_pass (λ n. nat_lt n k) rows ≡ true
all_pass-below k rows h = all_pass-from_Each (λ n. n < k) (λ n. nat_lt n k) (below_true k) rows h

pub Each-below : (k : ℕ) (rows : List (Solution ℕ)) → all_pass (λ n. nat_lt n k) rows ≡ true → Each (EachBound (λ n. n < k)) rows
Each-below k rows h = Each-from_all_pass (λ n. n < k) (λ n. nat_lt n k) (true_below k) rows h
