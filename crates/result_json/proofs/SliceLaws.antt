-- A part of a list, and one more row.
use Rattle.std.proofs.Common.{◌≡◌, ℕ, zero, suc, ◌+◌, ◌<◌, ◌≤◌, List, [], ◌∷◌, ◌++◌, length, get_or, set, take, drop, map, flat_map, All, slice_get, Option, None, Some, refl, ap, ◌∙◌, subst, arith, add-one, append-nil}
use Rattle.std.proofs.lemmas.List.{map-append, take-map, take_all, drop_all}
use Rattle.std.proofs.lemmas.List.Concat.{flat_map-append}
use Rattle.std.proofs.lemmas.List.Elements.{All-head, All-tail}
use Rattle.row_core.proofs.TurnLaws.{take_more_get}
use Rattle.algebra_model.specs.Renaming.{Each}
use Rattle.algebra_model.specs.Sorted.{slice}

pub drop-map : {X Y : Type 0} (f : X → Y) (n : ℕ) (xs : List X) → drop n (map f xs) ≡ map f (drop n xs)
drop-map f zero xs = refl
drop-map f (suc n) [] = refl
drop-map f (suc n) (x ∷ xs) = drop-map f n xs

pub slice-map : {X Y : Type 0} (f : X → Y) (offset : ℕ) (limit : Option ℕ) (xs : List X) → slice offset limit (map f xs) ≡ map f (slice offset limit xs)
slice-map f offset None xs = drop-map f offset xs
slice-map f offset (Some n) xs = ap (take n) (drop-map f offset xs) ∙ take-map f n (drop offset xs)

pub Each-at : {X : Type 0} (P : X → Type 0) (xs : List X) (i : ℕ) (x : X) → Each P xs → slice_get xs i ≡ Some x → P x
Each-at P [] i x h e = cc
Each-at P (y ∷ xs) zero x h e = let p : y ≡ x = cc in subst P p h.0
Each-at P (y ∷ xs) (suc i) x h e = Each-at P xs i x h.1 e

pub map-more : {X Y : Type 0} (f : X → Y) (xs : List X) (i : ℕ) (x : X) → slice_get xs i ≡ Some x → map f (take (i + 1) xs) ≡ map f (take i xs) ++ f x ∷ []
map-more f xs i x e = ap (map f) (take_more_get xs i x e) ∙ map-append f (take i xs) (x ∷ [])

pub flat_map-more : {X Y : Type 0} (f : X → List Y) (xs : List X) (i : ℕ) (x : X) → slice_get xs i ≡ Some x → flat_map f (take (i + 1) xs) ≡ flat_map f (take i xs) ++ f x
flat_map-more f xs i x e = ap (flat_map f) (take_more_get xs i x e) ∙ flat_map-append f (take i xs) (x ∷ []) ∙ ap (λ r. flat_map f (take i xs) ++ r) (append-nil (f x))

pub Each-from_all : {X : Type 0} (P : X → Type 0) (xs : List X) → All P xs → Each P xs
Each-from_all P [] h = tt
Each-from_all P (x ∷ xs) h = (All-head P x xs h, Each-from_all P xs (All-tail P x xs h))

-- a list with its first elements mapped and the others unchanged
abbrev pub upto : {X : Type 0} → (X → X) → ℕ → List X → List X
upto f i xs = map f (take i xs) ++ drop i xs

upto-at : {X : Type 0} (f : X → X) (i : ℕ) (xs : List X) (d : X) → get_or (upto f i xs) i d ≡ get_or xs i d
upto-at f zero xs d = refl
upto-at f (suc i) [] d = refl
upto-at f (suc i) (x ∷ xs) d = upto-at f i xs d

upto-suc : {X : Type 0} (f : X → X) (i : ℕ) (xs : List X) (d : X) → i < length xs → set (upto f i xs) i (f (get_or xs i d)) ≡ upto f (suc i) xs
upto-suc f i [] d l = absurd (omega arith)
upto-suc f zero (x ∷ xs) d l = refl
upto-suc f (suc i) (x ∷ xs) d l = ap (λ r. f x ∷ r) (upto-suc f i xs d (omega arith))

-- one more element is mapped in its place
pub upto-more : {X : Type 0} (f : X → X) (i : ℕ) (xs ys : List X) (d : X) → i < length xs → ys ≡ upto f i xs → set ys i (f (get_or ys i d)) ≡ upto f (i + 1) xs
upto-more f i xs ys d l e = rw add-one (ap (λ r. set r i (f (get_or r i d))) e ∙ ap (λ x. set (upto f i xs) i (f x)) (upto-at f i xs d) ∙ upto-suc f i xs d l)

pub upto-all : {X : Type 0} (f : X → X) (xs : List X) (n : ℕ) → length xs ≤ n → upto f n xs ≡ map f xs
upto-all f xs n l = (λ i. map f (take_all n xs l i) ++ drop_all n xs l i) ∙ append-nil (map f xs)
