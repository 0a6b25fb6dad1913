-- Pieces of a list: where one begins and ends, the first and the next, and how many hold all elements.
use Rattle.std.proofs.Common.{◌≡◌, ℕ, suc, ◌+◌, ◌-◌, ◌*◌, ◌<◌, ◌≤◌, List, [], ◌∷◌, length, take, drop, min, refl, sym, ap, ◌∙◌, subst, arith, ⊎_elim, lt_of_not-le, mul-le-mul_right, add-mul, one-mul}
use Rattle.std.specs.Int.{div_ceil}
use Rattle.std.proofs.Math.Nat.{suc-mul, zero-mul}
use Rattle.std.proofs.lemmas.Bool.{cases_lt}
use Rattle.std.proofs.lemmas.Grind.{div_ceil_times}
use Rattle.std.proofs.lemmas.List.{take_all, length-drop, drop-drop, drop_all}
use Rattle.row_pieces.specs.Pieces.{piece_of}

same_drop : {X : Type 0} (m n : ℕ) (xs : List X) → min m (length xs) ≡ min n (length xs) → drop m xs ≡ drop n xs
same_drop m n xs e =
    ⊎_elim (λ (a : m < length xs). ap (λ k. drop k xs) (omega arith)) (λ (a : length xs ≤ m). drop_all m xs a ∙ sym (drop_all n xs (omega arith))) (cases_lt m (length xs))

same_take : {X : Type 0} (m n : ℕ) (xs : List X) → min m (length xs) ≡ min n (length xs) → take m xs ≡ take n xs
same_take m n xs e =
    ⊎_elim (λ (a : m < length xs). ap (λ k. take k xs) (omega arith)) (λ (a : length xs ≤ m). take_all m xs a ∙ sym (take_all n xs (omega arith))) (cases_lt m (length xs))

-- a piece is what lies between its ends
pub piece-between : {X : Type 0} (size i count from to : ℕ) (xs : List X) → count ≡ length xs → from ≡ min (i * size) count → to ≡ min (from + size) count
    → take (to - from) (drop from xs) ≡ piece_of size i xs
piece-between size i count from to xs c f t =
    let l = length-drop from xs in
    same_take (to - from) size (drop from xs) (omega arith) ∙ ap (take size) (same_drop from (i * size) xs (omega arith))

pub first-piece : {X : Type 0} (size : ℕ) (xs : List X) → piece_of size 0 xs ≡ take size xs
first-piece size xs = ap (λ k. take size (drop k xs)) (zero-mul size)

pub next-piece : {X : Type 0} (size : ℕ) (xs : List X) (i : ℕ) → piece_of size (suc i) xs ≡ piece_of size i (drop size xs)
next-piece size xs i = ap (take size) (ap (λ k. drop k xs) (let e = suc-mul i size in omega arith) ∙ sym (drop-drop (i * size) size xs))

-- without pieces there are no elements
pub no-pieces : {X : Type 0} (size : ℕ) (xs : List X) → length xs ≤ 0 * size → xs ≡ []
no-pieces size [] h = refl
no-pieces size (x ∷ xs) h = let z = zero-mul size in absurd (omega arith)

-- the elements after the first piece, in one piece less
pub after-first : {X : Type 0} (size n : ℕ) (xs : List X) → length xs ≤ suc n * size → length (drop size xs) ≤ n * size
after-first size n xs h = omega (arith, suc-mul n size, length-drop size xs)

-- this number of pieces holds all elements
pub enough : (count total size pieces n : ℕ) → 0 < size → count ≡ total → pieces ≡ div_ceil count size → n ≡ pieces → total ≤ n * size
enough count total size pieces n h e p q =
    let t : count ≤ div_ceil count size * size = (div_ceil_times count size h).0 in
    subst (λ (x : ℕ). total ≤ x * size) (sym (q ∙ p)) (subst (λ (x : ℕ). x ≤ div_ceil count size * size) e t)

pub few : (n size k : ℕ) → 0 < size → n ≤ k * size → div_ceil n size ≤ k
few n size k p h =
    let t : div_ceil n size * size < n + size = (div_ceil_times n size p).1 in
    let low : div_ceil n size < k + 1 = lt_of_not-le (λ (g : k + 1 ≤ div_ceil n size). let m = mul-le-mul_right size g in omega (arith, add-mul k 1 size, one-mul size)) in
    omega arith

pub one-piece : (n size pieces : ℕ) → 0 < size → n ≤ size → pieces ≡ div_ceil n size → pieces ≤ 1
one-piece n size pieces p h e =
    let m = one-mul size in
    subst (λ (x : ℕ). x ≤ 1) (sym e) (few n size 1 p (omega arith))
