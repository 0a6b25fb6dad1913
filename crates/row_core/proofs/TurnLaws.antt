-- What one iteration of a loop adds: one row, or one variable of two rows.
use Rattle.std.proofs.Common.{◌≡◌, ℕ, zero, suc, ◌+◌, ◌<◌, ◌≤◌, Bool, true, false, cond, ◌&&◌, ◌||◌, List, [], ◌∷◌, ◌++◌, length, get_or, take, drop, map, filter, slice_get, Option, None, Some, is_some, nat_eq, refl, sym, ap, ◌∙◌, arith, add-one, append-nil}
use Rattle.std.specs.List.{list_all}
use Rattle.std.proofs.lemmas.List.{map-append, drop_more, drop_all}
use Rattle.std.proofs.lemmas.List.Elements.{filter-append}
use Rattle.std.proofs.lemmas.List.Concat.{flat_map-append}
use Rattle.algebra_model.specs.Solution.{Solution, agree, is_compatible, merge, bound_or}
use Rattle.algebra_model.specs.Operators.{join, merges, share}
use Rattle.algebra_model.proofs.TestLaws.{and_assoc}

pub is_compatible-drop : (a b : Solution ℕ) (i : ℕ) → i < length a → length a ≡ length b → is_compatible nat_eq (drop i a) (drop i b) ≡ (agree nat_eq (get_or a i None) (get_or b i None) && is_compatible nat_eq (drop (i + 1) a) (drop (i + 1) b))
is_compatible-drop a b i h e = let k : i < length b = omega arith in λ j. is_compatible nat_eq (drop_more a i None h j) (drop_more b i None k j)

pub is_compatible-drop_all : (a b : Solution ℕ) (i : ℕ) → length a ≤ i → is_compatible nat_eq (drop i a) (drop i b) ≡ true
is_compatible-drop_all a b i h = ap (λ d. is_compatible nat_eq d (drop i b)) (drop_all i a h)

merge-take-suc : (a b : Solution ℕ) (i : ℕ) → i < length a → length a ≡ length b → merge (take (suc i) a) (take (suc i) b) ≡ merge (take i a) (take i b) ++ bound_or (get_or a i None) (get_or b i None) ∷ []
merge-take-suc [] b i h e = absurd (omega arith)
merge-take-suc (x ∷ a) [] i h e = absurd (omega arith)
merge-take-suc (x ∷ a) (y ∷ b) zero h e = refl
merge-take-suc (x ∷ a) (y ∷ b) (suc i) h e = ap (λ r. bound_or x y ∷ r) (merge-take-suc a b i (omega arith) (omega arith))

pub merge-take : (a b : Solution ℕ) (i : ℕ) → i < length a → length a ≡ length b → merge (take (i + 1) a) (take (i + 1) b) ≡ merge (take i a) (take i b) ++ bound_or (get_or a i None) (get_or b i None) ∷ []
merge-take a b i h e = rw add-one (merge-take-suc a b i h e)

pub take_more_get : {X : Type 0} (xs : List X) (i : ℕ) (x : X) → slice_get xs i ≡ Some x → take (i + 1) xs ≡ take i xs ++ x ∷ []
take_more_get {X} xs i x e = rw add-one (by xs i e)
  where
    by : (xs : List X) (i : ℕ) → slice_get xs i ≡ Some x → take (suc i) xs ≡ take i xs ++ x ∷ []
    by [] i e = cc
    by (y ∷ xs) zero e = let p : y ≡ x = cc in ap (λ z. z ∷ []) p
    by (y ∷ xs) (suc i) e = ap (λ r. y ∷ r) (by xs i e)

pub merges-take : (μ ν : Solution ℕ) (R : List (Solution ℕ)) (i : ℕ) → slice_get R i ≡ Some ν → merges nat_eq μ (take (i + 1) R) ≡ merges nat_eq μ (take i R) ++ cond (is_compatible nat_eq μ ν) (merge μ ν ∷ []) []
merges-take μ ν R i e =
    ap (merges nat_eq μ) (take_more_get R i ν e) ∙ ap (map (merge μ)) (filter-append (is_compatible nat_eq μ) (take i R) (ν ∷ [])) ∙ map-append (merge μ) (filter (is_compatible nat_eq μ) (take i R)) (filter (is_compatible nat_eq μ) (ν ∷ []))
    ∙ ap (λ r. merges nat_eq μ (take i R) ++ r) (by (is_compatible nat_eq μ ν))
  where
    by : (b : Bool) → map (merge μ) (cond b (ν ∷ []) []) ≡ cond b (merge μ ν ∷ []) []
    by true = refl
    by false = refl

pub join-take : (L R : List (Solution ℕ)) (i : ℕ) (μ : Solution ℕ) → slice_get L i ≡ Some μ → join nat_eq (take (i + 1) L) R ≡ join nat_eq (take i L) R ++ merges nat_eq μ R
join-take L R i μ e = ap (λ l. join nat_eq l R) (take_more_get L i μ e) ∙ flat_map-append (λ ν. merges nat_eq ν R) (take i L) (μ ∷ []) ∙ ap (λ r. join nat_eq (take i L) R ++ r) (append-nil (merges nat_eq μ R))

pub filter-take : (p : Solution ℕ → Bool) (L : List (Solution ℕ)) (i : ℕ) (μ : Solution ℕ) → slice_get L i ≡ Some μ → filter p (take (i + 1) L) ≡ filter p (take i L) ++ cond (p μ) (μ ∷ []) []
filter-take p L i μ e = ap (filter p) (take_more_get L i μ e) ∙ filter-append p (take i L) (μ ∷ [])

share-cons : (x y : Option ℕ) (a b : Solution ℕ) → share (x ∷ a) (y ∷ b) ≡ ((is_some x && is_some y) || share a b)
share-cons None y a b = refl
share-cons (Some x) None a b = refl
share-cons (Some x) (Some y) a b = refl

pub share-drop : (a b : Solution ℕ) (i : ℕ) → i < length a → length a ≡ length b → share (drop i a) (drop i b) ≡ ((is_some (get_or a i None) && is_some (get_or b i None)) || share (drop (i + 1) a) (drop (i + 1) b))
share-drop a b i h e = let k : i < length b = omega arith in (λ j. share (drop_more a i None h j) (drop_more b i None k j)) ∙ share-cons (get_or a i None) (get_or b i None) (drop (i + 1) a) (drop (i + 1) b)

pub share-end : (a b : Solution ℕ) (i : ℕ) → length a ≤ i → share (drop i a) (drop i b) ≡ false
share-end a b i h = ap (λ d. share d (drop i b)) (drop_all i a h)

drop_get : {X : Type 0} (xs : List X) (i : ℕ) (x : X) → slice_get xs i ≡ Some x → drop i xs ≡ x ∷ drop (suc i) xs
drop_get [] i x e = cc
drop_get (y ∷ xs) zero x e = let p : y ≡ x = cc in ap (λ z. z ∷ xs) p
drop_get (y ∷ xs) (suc i) x e = drop_get xs i x e

pub all-drop : {X : Type 0} (p : X → Bool) (xs : List X) (i : ℕ) (x : X) → slice_get xs i ≡ Some x → list_all p (drop i xs) ≡ (p x && list_all p (drop (i + 1) xs))
all-drop p xs i x e = rw add-one (ap (list_all p) (drop_get xs i x e))

pub all-end : {X : Type 0} (p : X → Bool) (xs : List X) (i : ℕ) → length xs ≤ i → list_all p (drop i xs) ≡ true
all-end p xs i h = ap (list_all p) (drop_all i xs h)

pub all-take : {X : Type 0} (p : X → Bool) (xs : List X) (i : ℕ) (x : X) → slice_get xs i ≡ Some x → list_all p (take (i + 1) xs) ≡ (list_all p (take i xs) && p x)
all-take {X} p xs i x e = ap (list_all p) (take_more_get xs i x e) ∙ by (take i xs)
  where
    true_right : (b : Bool) → (b && true) ≡ b
    true_right true = refl
    true_right false = refl

    by : (ys : List X) → list_all p (ys ++ x ∷ []) ≡ (list_all p ys && p x)
    by [] = true_right (p x)
    by (y ∷ ys) = ap (λ b. p y && b) (by ys) ∙ sym (and_assoc (p y) (list_all p ys) (p x))

-- the merges of a row that pass, with one more row of the other side
pub passing-take : (keeps : Solution ℕ → Bool) (μ ν : Solution ℕ) (R : List (Solution ℕ)) (i : ℕ) → slice_get R i ≡ Some ν → filter keeps (merges nat_eq μ (take (i + 1) R)) ≡ filter keeps (merges nat_eq μ (take i R)) ++ cond (is_compatible nat_eq μ ν && keeps (merge μ ν)) (merge μ ν ∷ []) []
passing-take keeps μ ν R i e =
    ap (filter keeps) (merges-take μ ν R i e) ∙ filter-append keeps (merges nat_eq μ (take i R)) (cond (is_compatible nat_eq μ ν) (merge μ ν ∷ []) []) ∙ ap (λ r. filter keeps (merges nat_eq μ (take i R)) ++ r) (by (is_compatible nat_eq μ ν) (keeps (merge μ ν)) refl)
  where
    by : (a b : Bool) → keeps (merge μ ν) ≡ b → filter keeps (cond a (merge μ ν ∷ []) []) ≡ cond (a && b) (merge μ ν ∷ []) []
    by true true q = ap (λ b. cond b (merge μ ν ∷ []) []) q
    by true false q = ap (λ b. cond b (merge μ ν ∷ []) []) q
    by false b q = refl
