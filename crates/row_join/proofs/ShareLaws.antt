-- Whether a left row shares a variable with the right rows, decided by one row that binds what some
-- of them binds.
use Rattle.std.proofs.Common.{◌≡◌, ℕ, zero, suc, ◌<◌, Bool, true, false, not, ◌&&◌, ◌||◌, List, [], ◌∷◌, length, get_or, nat_eq, is_some, Some, None, refl, sym, ap, ◌∙◌, true≢false, arith}
use Rattle.algebra_model.specs.Solution.{Solution, is_compatible}
use Rattle.algebra_model.specs.Operators.{share}
use Rattle.row_join.specs.Pairing.{binds, shares_some, is_apart}

or_right : (a b : Bool) → b ≡ true → (a || b) ≡ true
or_right true b e = refl
or_right false b e = e

same_truth : (a b : Bool) → (a ≡ true → b ≡ true) → (b ≡ true → a ≡ true) → a ≡ b
same_truth true b f g = sym (f refl)
same_truth false true f g = g refl
same_truth false false f g = refl

-- two rows share a variable if both bind it
share_from : (μ ν : Solution ℕ) (v : ℕ) → is_some (get_or μ v None) ≡ true → is_some (get_or ν v None) ≡ true → share μ ν ≡ true
share_from [] ν v a b = absurd (true≢false (sym a))
share_from (x ∷ μ) [] v a b = absurd (true≢false (sym b))
share_from (None ∷ μ) (y ∷ ν) zero a b = absurd (true≢false (sym a))
share_from (None ∷ μ) (y ∷ ν) (suc v) a b = share_from μ ν v a b
share_from (Some x ∷ μ) (None ∷ ν) zero a b = absurd (true≢false (sym b))
share_from (Some x ∷ μ) (None ∷ ν) (suc v) a b = share_from μ ν v a b
share_from (Some x ∷ μ) (Some y ∷ ν) v a b = refl

shared_at : (μ ν : Solution ℕ) → share μ ν ≡ true → (v : ℕ) × (v < length μ) × (is_some (get_or μ v None) ≡ true) × (is_some (get_or ν v None) ≡ true)
shared_at [] ν h = absurd (true≢false (sym h))
shared_at (x ∷ μ) [] h = absurd (true≢false (sym h))
shared_at (None ∷ μ) (y ∷ ν) h =
    let (v, low, a, b) = shared_at μ ν h in
    (suc v, omega arith, a, b)
shared_at (Some x ∷ μ) (None ∷ ν) h =
    let (v, low, a, b) = shared_at μ ν h in
    (suc v, omega arith, a, b)
shared_at (Some x ∷ μ) (Some y ∷ ν) h = (0, omega arith, refl, refl)

module _ (μ : Solution ℕ) where
  some_shares : (v : ℕ) → is_some (get_or μ v None) ≡ true → (rows : List (Solution ℕ)) → binds rows v ≡ true → shares_some rows μ ≡ true
  some_shares v a [] h = absurd (true≢false (sym h))
  some_shares v a (ν ∷ rows) h = by (is_some (get_or ν v None)) refl h (some_shares v a rows)
    where
      by : (c : Bool) → is_some (get_or ν v None) ≡ c → (c || binds rows v) ≡ true → (binds rows v ≡ true → shares_some rows μ ≡ true)
          → (share μ ν || shares_some rows μ) ≡ true
      by true e r rest = ap (λ c. c || shares_some rows μ) (share_from μ ν v a e)
      by false e r rest = or_right (share μ ν) (shares_some rows μ) (rest r)

  some_shared_at : (rows : List (Solution ℕ)) → shares_some rows μ ≡ true → (v : ℕ) × (v < length μ) × (is_some (get_or μ v None) ≡ true) × (binds rows v ≡ true)
  some_shared_at [] h = absurd (true≢false (sym h))
  some_shared_at (ν ∷ rows) h = by (share μ ν) refl h (some_shared_at rows)
    where
      by : (c : Bool) → share μ ν ≡ c → (c || shares_some rows μ) ≡ true
          → (shares_some rows μ ≡ true → (v : ℕ) × (v < length μ) × (is_some (get_or μ v None) ≡ true) × (binds rows v ≡ true))
          → (v : ℕ) × (v < length μ) × (is_some (get_or μ v None) ≡ true) × ((is_some (get_or ν v None) || binds rows v) ≡ true)
      by true e r rest =
          let (v, low, a, b) = shared_at μ ν e in
          (v, low, a, ap (λ c. c || binds rows v) b)
      by false e r rest =
          let (v, low, a, b) = rest r in
          (v, low, a, or_right (is_some (get_or ν v None)) (binds rows v) b)

  -- a row that binds what some of the rows binds represents them all
  pub shared_with : (bound : Solution ℕ) (rows : List (Solution ℕ)) → ((v : ℕ) → v < length μ → is_some (get_or bound v None) ≡ binds rows v) → share μ bound ≡ shares_some rows μ
  shared_with bound rows h = same_truth (share μ bound) (shares_some rows μ) there back
    where
      there : share μ bound ≡ true → shares_some rows μ ≡ true
      there e =
          let (v, low, a, b) = shared_at μ bound e in
          some_shares v a rows (sym (h v low) ∙ b)

      back : shares_some rows μ ≡ true → share μ bound ≡ true
      back e =
          let (v, low, a, b) = some_shared_at rows e in
          share_from μ bound v a (h v low ∙ b)

  -- rows with which μ shares no bound variable remove nothing
  pub unshared_apart : (rows : List (Solution ℕ)) → shares_some rows μ ≡ false → is_apart rows μ ≡ true
  unshared_apart [] h = refl
  unshared_apart (ν ∷ rows) h = by (share μ ν) refl h (unshared_apart rows)
    where
      by : (c : Bool) → share μ ν ≡ c → (c || shares_some rows μ) ≡ false → (shares_some rows μ ≡ false → is_apart rows μ ≡ true)
          → ((not (is_compatible nat_eq μ ν) || not (share μ ν)) && is_apart rows μ) ≡ true
      by true e r rest = absurd (true≢false r)
      by false e r rest =
          ap (λ c. c && is_apart rows μ) (or_right (not (is_compatible nat_eq μ ν)) (not (share μ ν)) (ap not e))
          ∙ rest r
