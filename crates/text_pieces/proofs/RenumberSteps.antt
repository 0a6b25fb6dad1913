-- A list whose elements are replaced in their places, from the first on.
use Rattle.std.proofs.Common.{◌≡◌, ℕ, zero, suc, ◌+◌, ◌<◌, ◌≤◌, List, [], ◌∷◌, ◌++◌, length, get_or, set, take, drop, map, refl, ap, ◌∙◌, arith, add-one, append-nil}
use Rattle.std.proofs.lemmas.List.{take_all, drop_all}

module _ {X : Type 0} (f : X → X) where
  -- the list with its first elements replaced
  abbrev pub upto : ℕ → List X → List X
  upto i xs = map f (take i xs) ++ drop i xs

  upto-at : (i : ℕ) (xs : List X) (d : X) → get_or (upto i xs) i d ≡ get_or xs i d
  upto-at zero xs d = refl
  upto-at (suc i) [] d = refl
  upto-at (suc i) (x ∷ xs) d = upto-at i xs d

  upto-suc : (i : ℕ) (xs : List X) (d : X) → i < length xs → set (upto i xs) i (f (get_or xs i d)) ≡ upto (suc i) xs
  upto-suc i [] d low = absurd (omega arith)
  upto-suc zero (x ∷ xs) d low = refl
  upto-suc (suc i) (x ∷ xs) d low = ap (λ ys. f x ∷ ys) (upto-suc i xs d (omega arith))

  -- one more element is replaced
  pub upto-more : (i : ℕ) (xs ys : List X) (d : X) → i < length xs → ys ≡ upto i xs → set ys i (f (get_or ys i d)) ≡ upto (i + 1) xs
  upto-more i xs ys d low was =
      rw add-one (ap (λ zs. set zs i (f (get_or zs i d))) was ∙ ap (λ x. set (upto i xs) i (f x)) (upto-at i xs d) ∙ upto-suc i xs d low)

  pub upto-all : (xs : List X) (n : ℕ) → length xs ≤ n → upto n xs ≡ map f xs
  upto-all xs n end = (λ i. map f (take_all n xs end i) ++ drop_all n xs end i) ∙ append-nil (map f xs)
