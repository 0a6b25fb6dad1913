-- What holds of each element of a list.
use Rattle.std.proofs.Common.{Bool, true, false, cond, not, List, [], ◌∷◌, ◌++◌, filter}
use Rattle.std.specs.Prelude.{⊤}
use Rattle.std.specs.List.{flat_map}
use Rattle.algebra_model.specs.Bag.{without_repeats}

abbrev pub Each : {X : Type 0} → (X → Type 0) → List X → Type 0
Each P [] = ⊤
Each P (x ∷ xs) = P x × Each P xs

module _ {X : Type 0} (P : X → Type 0) where
  pub Each-append : (xs ys : List X) → Each P xs → Each P ys → Each P (xs ++ ys)
  Each-append [] ys h k = k
  Each-append (x ∷ xs) ys h k = (h.0, Each-append xs ys h.1 k)

  pub Each-filter : (q : X → Bool) (xs : List X) → Each P xs → Each P (filter q xs)
  Each-filter q [] h = tt
  Each-filter q (x ∷ xs) h =
      elim (q x) as (λ b. Each P (cond b (x ∷ filter q xs) (filter q xs))) [
        | true ↦ (h.0, Each-filter q xs h.1)
        | false ↦ Each-filter q xs h.1
      ]

  pub Each-without_repeats : (same : X → X → Bool) (xs : List X) → Each P xs → Each P (without_repeats same xs)
  Each-without_repeats same [] h = tt
  Each-without_repeats same (x ∷ xs) h = (h.0, Each-filter (λ y. not (same x y)) (without_repeats same xs) (Each-without_repeats same xs h.1))

pub Each-flat_map : {X Y : Type 0} (P : X → Type 0) (R : Y → Type 0) (f : X → List Y) → ((x : X) → P x → Each R (f x)) → (xs : List X) → Each P xs → Each R (flat_map f xs)
Each-flat_map P R f each [] h = tt
Each-flat_map P R f each (x ∷ xs) h = Each-append R (f x) (flat_map f xs) (each x h.0) (Each-flat_map P R f each xs h.1)
