-- Distinct numbers below m are at most m.
use Rattle.std.proofs.Common.{◌≡◌, ◌≢◌, ◌⊎◌, ⊎_elim, ℕ, zero, suc, ◌+◌, ◌<◌, ◌≤◌, List, [], ◌∷◌, length, refl, ap, arith, ltb, eqb, cond, inl, inr}
use Rattle.std.proofs.lemmas.Bool.{lt-ltb, le-ltb}
use Rattle.std.proofs.lemmas.List.Sums.{sum_by-cons}
use mathlib.Core.Logic.{dite}
use native.Mathlib.Decide.{dec_le}
use Rattle.piece_board.specs.Counts.{times, once_below}
use Rattle.piece_board.proofs.CountLaws.{one, one_is}

abbrev under : ℕ → ℕ → ℕ
under y m = cond (ltb y m) 1 0

abbrev below : ℕ → List ℕ → ℕ
below m [] = 0
below m (y ∷ ys) = under y m + below m ys

under_is : (y m : ℕ) → ((y < m) × (under y m ≡ 1)) ⊎ ((m ≤ y) × (under y m ≡ 0))
under_is y m = dite (dec_le m y) (λ h. inr (h, ap (λ b. cond b 1 0) (le-ltb y m h))) (λ h. let l : y < m = omega arith in inl (l, ap (λ b. cond b 1 0) (lt-ltb y m l)))

pub times-cons : (x y : ℕ) (ys : List ℕ) → times x (y ∷ ys) ≡ one y x + times x ys
times-cons x y ys = sum_by-cons (λ z. cond (eqb z x) 1 0) y ys

more_under : (y m : ℕ) → under y (suc m) ≡ under y m + one y m
more_under y m = ⊎_elim
    (λ (t : (y ≡ m) × (one y m ≡ 1)). ⊎_elim (λ (u : (y < m) × (under y m ≡ 1)). let a = t.0 in let b = u.0 in absurd (omega arith)) (λ (u : (m ≤ y) × (under y m ≡ 0)).
    ⊎_elim (λ (v : (y < suc m) × (under y (suc m) ≡ 1)). let a = t.1 in let b = u.1 in let c = v.1 in omega arith) (λ (v : (suc m ≤ y) × (under y (suc m) ≡ 0)). let a = t.0 in let b = v.0 in absurd (omega arith)) (under_is y (suc m))) (under_is y m))
    (λ (t : (y ≢ m) × (one y m ≡ 0)). let a = t.0 in let a' = t.1 in ⊎_elim
    (λ (u : (y < m) × (under y m ≡ 1)). ⊎_elim (λ (v : (y < suc m) × (under y (suc m) ≡ 1)). let b = u.1 in let c = v.1 in omega arith) (λ (v : (suc m ≤ y) × (under y (suc m) ≡ 0)). let b = u.0 in let c = v.0 in absurd (omega arith)) (under_is y (suc m)))
    (λ (u : (m ≤ y) × (under y m ≡ 0)). ⊎_elim (λ (v : (y < suc m) × (under y (suc m) ≡ 1)). let b = u.0 in let c = v.0 in absurd (omega arith)) (λ (v : (suc m ≤ y) × (under y (suc m) ≡ 0)). let b = u.1 in let c = v.1 in omega arith) (under_is y (suc m)))
    (under_is y m))
    (one_is y m)

below_more : (m : ℕ) (ys : List ℕ) → below (suc m) ys ≡ below m ys + times m ys
below_more m [] = refl
below_more m (y ∷ ys) = let a = more_under y m in let b = below_more m ys in let c = times-cons m y ys in omega arith

below_few : (m : ℕ) (ys : List ℕ) → ((x : ℕ) → times x ys ≤ 1) → below m ys ≤ m
below_few zero ys h = none ys
  where
    none : (zs : List ℕ) → below zero zs ≤ zero
    none [] = omega arith
    none (z ∷ zs) = let a = none zs in ⊎_elim (λ (t : (z < zero) × (under z zero ≡ 1)). let b = t.0 in absurd (omega arith)) (λ (t : (zero ≤ z) × (under z zero ≡ 0)). let b = t.1 in omega arith) (under_is z zero)
below_few (suc m) ys h = let a = below_few m ys h in let b = below_more m ys in let c = h m in omega arith

below_all : (m : ℕ) (ys : List ℕ) → ((x : ℕ) → 0 < times x ys → x < m) → length ys ≤ below m ys
below_all m [] h = omega arith
below_all m (y ∷ ys) h = let others = below_all m ys (λ x p. h x (let a = times-cons x y ys in omega arith)) in
    let here : y < m = h y (let a = times-cons y y ys in ⊎_elim (λ (t : (y ≡ y) × (one y y ≡ 1)). let b = t.1 in omega arith) (λ (t : (y ≢ y) × (one y y ≡ 0)). absurd (t.0 refl)) (one_is y y)) in
    ⊎_elim (λ (t : (y < m) × (under y m ≡ 1)). let b = t.1 in omega arith) (λ (t : (m ≤ y) × (under y m ≡ 0)). let b = t.0 in absurd (omega arith)) (under_is y m)

pub length_few : (m : ℕ) (ys : List ℕ) → ((x : ℕ) → times x ys ≤ once_below x m) → length ys ≤ m
length_few m ys h = let a = below_few m ys (λ x. let b = h x in omega arith) in let b = below_all m ys (λ x p. let c = h x in omega arith) in omega arith
