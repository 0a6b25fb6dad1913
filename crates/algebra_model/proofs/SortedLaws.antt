-- Sorting by a total order has one result.
use Rattle.std.proofs.Common.{◌≡◌, ℕ, suc, ◌+◌, ◌<◌, Bool, true, false, cond, List, [], ◌∷◌, length, get_or, Decides, IsPermutation, IsSortedBy, count_by, refl, sym, ap, ◌∙◌, subst, ⊎_elim, arith, if◌then◌else◌, Ordering, Less, Equal, Greater, is_eq, is_lt, is_gt}
use Rattle.std.specs.Ordering.{ordering_reverse}
use Rattle.std.specs.Cmp.{IsTotalOrder}
use Rattle.std.proofs.lemmas.Bool.{cases_Bool, false≢true}
use Rattle.std.proofs.lemmas.Cmp.{tied_itself, upto}
use Rattle.std.proofs.lemmas.List.Sorted.{IsPermutation-refl, IsPermutation-cons, IsPermutation-trans, sorted_far, ranks_by}
use Rattle.algebra_model.specs.Sorted.{IsUpTo, IsRising, place, sorted_list}
use Rattle.algebra_model.proofs.BagLaws.{count_by-cons, count_by-yes, count_by-no, count_by-IsPermutation}

module _ {X : Type 0} (R : X → X → Ordering) (o : IsTotalOrder R) (one : (x y : X) → R x y ≡ Equal → x ≡ y) where
  eq_is : (r : Ordering) → is_eq r ≡ true → r ≡ Equal
  eq_is Less e = absurd (false≢true e)
  eq_is Equal e = refl
  eq_is Greater e = absurd (false≢true e)

  decides : (x y : X) → Decides (is_eq (R x y)) (x ≡ y)
  decides x y = (λ e. one x y (eq_is (R x y) e), λ e. ap (λ z. is_eq (R x z)) (sym e) ∙ ap is_eq (tied_itself o x))

  turned : (r : Ordering) → is_gt r ≡ false → is_gt (ordering_reverse r) ≡ false → r ≡ Equal
  turned Less p q = absurd (false≢true (sym q))
  turned Equal p q = refl
  turned Greater p q = absurd (false≢true (sym p))

  both : (x y : X) → is_gt (R x y) ≡ false → is_gt (R y x) ≡ false → x ≡ y
  both x y p q = one x y (turned (R x y) p (ap is_gt (sym (o.antisymm y x)) ∙ q))

  upto_member : (x y : X) (xs : List X) → IsUpTo R x xs → 0 < count_by (λ z. is_eq (R y z)) xs → is_gt (R x y) ≡ false
  upto_member x y [] h k = absurd (omega arith)
  upto_member x y (z ∷ xs) h k =
      ⊎_elim
      (λ (e : is_eq (R y z) ≡ true). subst (λ (v : X). is_gt (R x v) ≡ false) (sym ((decides y z).0 e)) h.0)
      (λ (e : is_eq (R y z) ≡ false). let c = count_by-no (λ v. is_eq (R y v)) z xs e in upto_member x y xs h.1 (omega arith))
      (cases_Bool (is_eq (R y z)))

  itself : (x : X) → is_eq (R x x) ≡ true
  itself x = ap is_eq (tied_itself o x)

  upto_head : (x y : X) (xs : List X) → IsUpTo R x xs → 0 < count_by (λ z. is_eq (R y z)) (x ∷ xs) → is_gt (R x y) ≡ false
  upto_head x y xs h k =
      ⊎_elim
      (λ (e : is_eq (R y x) ≡ true). subst (λ (v : X). is_gt (R x v) ≡ false) (sym ((decides y x).0 e)) (ap is_gt (tied_itself o x)))
      (λ (e : is_eq (R y x) ≡ false). let c = count_by-no (λ v. is_eq (R y v)) x xs e in upto_member x y xs h (omega arith))
      (cases_Bool (is_eq (R y x)))

  rises_once : (xs ys : List X) → IsRising R xs → IsRising R ys → ((z : X) → count_by (λ v. is_eq (R z v)) xs ≡ count_by (λ v. is_eq (R z v)) ys) → xs ≡ ys
  rises_once [] [] h k c = refl
  rises_once [] (y ∷ ys) h k c = let a = c y in let b = count_by-yes (λ v. is_eq (R y v)) y ys (itself y) in absurd (omega arith)
  rises_once (x ∷ xs) [] h k c = let a = c x in let b = count_by-yes (λ v. is_eq (R x v)) x xs (itself x) in absurd (omega arith)
  rises_once (x ∷ xs) (y ∷ ys) h k c =
      let a = count_by-yes (λ v. is_eq (R x v)) x xs (itself x) in
      let b = count_by-yes (λ v. is_eq (R y v)) y ys (itself y) in
      let ca = c x in
      let cb = c y in
      let e : x ≡ y = both x y (upto_head x y xs h.0 (omega arith)) (upto_head y x ys k.0 (omega arith)) in
      let rest = λ (z : X).
      let u = count_by-cons (λ v. is_eq (R z v)) x xs in
      let w = count_by-cons (λ v. is_eq (R z v)) y ys in
      let q = ap (λ (v : X). cond {A = ℕ} (is_eq (R z v)) 1 0) e in
      let cz = c z in
      let r : count_by (λ v. is_eq (R z v)) xs ≡ count_by (λ v. is_eq (R z v)) ys = omega arith in r in
      λ i. e i ∷ rises_once xs ys h.1 k.1 rest i

  place_permutation : (x : X) (ys : List X) → IsPermutation (x ∷ ys) (place R x ys)
  place_permutation x [] = IsPermutation-refl (x ∷ [])
  place_permutation x (y ∷ ys) =
      let i = place_permutation x ys in
      elim (is_gt (R x y)) as (λ b. IsPermutation (x ∷ y ∷ ys) (if b then y ∷ place R x ys else (x ∷ y ∷ ys))) [
        | true ↦ IsPermutation-trans (x ∷ y ∷ ys) (y ∷ x ∷ ys) (y ∷ place R x ys) (swap_first x y ys) (IsPermutation-cons y (x ∷ ys) (place R x ys) i)
        | false ↦ IsPermutation-refl (x ∷ y ∷ ys)
      ]
    where
      swap_first : (x y : X) (ys : List X) → IsPermutation (x ∷ y ∷ ys) (y ∷ x ∷ ys)
      swap_first x y ys = record { moves = (0, 1) ∷ []; below = (omega arith, omega arith, tt); is = refl }

  pub sorted_permutation : (xs : List X) → IsPermutation xs (sorted_list R xs)
  sorted_permutation [] = IsPermutation-refl []
  sorted_permutation (x ∷ xs) = IsPermutation-trans (x ∷ xs) (x ∷ sorted_list R xs) (place R x (sorted_list R xs)) (IsPermutation-cons x xs (sorted_list R xs) (sorted_permutation xs)) (place_permutation x (sorted_list R xs))

  upto_place : (y x : X) (ys : List X) → is_gt (R y x) ≡ false → IsUpTo R y ys → IsUpTo R y (place R x ys)
  upto_place y x [] e h = (e, tt)
  upto_place y x (z ∷ ys) e h =
      elim (is_gt (R x z)) as (λ b. IsUpTo R y (if b then z ∷ place R x ys else (x ∷ z ∷ ys))) [ true ↦ (h.0, upto_place y x ys e h.1) | false ↦ (e, h) ]

  turn_gt : (r : Ordering) → is_gt r ≡ true → is_gt (ordering_reverse r) ≡ false
  turn_gt Less e = absurd (false≢true e)
  turn_gt Equal e = refl
  turn_gt Greater e = refl

  upto_less : (x y : X) (ys : List X) → is_gt (R x y) ≡ false → IsUpTo R y ys → IsUpTo R x ys
  upto_less x y [] e h = tt
  upto_less x y (z ∷ ys) e h = (upto o x y z e h.0, upto_less x y ys e h.1)

  place_rises : (x : X) (ys : List X) → IsRising R ys → IsRising R (place R x ys)
  place_rises x [] h = (tt, tt)
  place_rises x (y ∷ ys) h =
      ⊎_elim
      (λ (e : is_gt (R x y) ≡ true). subst (λ (b : Bool). IsRising R (if b then y ∷ place R x ys else (x ∷ y ∷ ys))) (sym e) (upto_place y x ys (ap is_gt (o.antisymm y x) ∙ turn_gt (R x y) e) h.0, place_rises x ys h.1))
      (λ (e : is_gt (R x y) ≡ false). subst (λ (b : Bool). IsRising R (if b then y ∷ place R x ys else (x ∷ y ∷ ys))) (sym e) ((e, upto_less x y ys e h.0), h))
      (cases_Bool (is_gt (R x y)))

  pub sorted_rises : (xs : List X) → IsRising R (sorted_list R xs)
  sorted_rises [] = tt
  sorted_rises (x ∷ xs) = place_rises x (sorted_list R xs) (sorted_rises xs)

  -- what a sort ensures
  turn_lt : (r : Ordering) → is_lt r ≡ false → is_gt (ordering_reverse r) ≡ false
  turn_lt Less e = absurd (false≢true (sym e))
  turn_lt Equal e = refl
  turn_lt Greater e = refl

  upto_from : (x : X) (xs : List X) → ((k : ℕ) (d : X) → k < length xs → is_lt (R (get_or xs k d) x) ≡ false) → IsUpTo R x xs
  upto_from x [] h = tt
  upto_from x (y ∷ xs) h = (ap is_gt (o.antisymm x y) ∙ turn_lt (R y x) (h 0 y (omega arith)), upto_from x xs (λ k d l. h (suc k) d (omega arith)))

  pub rises_from_sort : (xs : List X) → IsSortedBy (λ x y. is_lt (R x y)) xs → IsRising R xs
  rises_from_sort [] h = tt
  rises_from_sort (x ∷ xs) h =
      let far = sorted_far (λ x y. is_lt (R x y)) (ranks_by o (λ (x : X). x)) (x ∷ xs) h in
      (upto_from x xs (λ k d l. far 0 (suc k) d (omega arith) (omega arith)), rises_from_sort xs (λ k d a b. later k d b))
    where
      later : (k : ℕ) (d : X) → k + 1 < length xs → is_lt (R (get_or xs (k + 1) d) (get_or xs k d)) ≡ false
      later k d b = let e : suc k + 1 ≡ suc (k + 1) = omega arith in subst (λ (n : ℕ). is_lt (R (get_or (x ∷ xs) n d) (get_or xs k d)) ≡ false) e (h (suc k) d (omega arith) (omega arith))

  -- a multiset in ascending order is the sorted list
  pub sorted_is : (xs ys : List X) → IsPermutation xs ys → IsRising R ys → ys ≡ sorted_list R xs
  sorted_is xs ys p h =
      rises_once ys (sorted_list R xs) h (sorted_rises xs) (λ z. count_by-IsPermutation (λ v. is_eq (R z v)) xs ys p ∙ sym (count_by-IsPermutation (λ v. is_eq (R z v)) xs (sorted_list R xs) (sorted_permutation xs)))

  -- equal multisets are sorted to one list
  pub sorted_of_bag : (xs ys : List X) → IsPermutation xs ys → sorted_list R xs ≡ sorted_list R ys
  sorted_of_bag xs ys p = sym (sorted_is xs (sorted_list R ys) (IsPermutation-trans xs ys (sorted_list R ys) p (sorted_permutation ys)) (sorted_rises ys))
