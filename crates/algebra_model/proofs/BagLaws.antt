-- A multiset by its counts, and the functions that preserve multisets.
use Rattle.std.proofs.Common.{filter, filter_map, Option, None, Some, not, ◌&&◌, ◌||◌, subst, ◌≡◌, suc, ◌+◌, ◌<◌, Bool, true, false, cond, List, [], ◌∷◌, ◌++◌, Decides, IsPermutation, Contains, count_by, sum_by, flat_map, remove, refl, sym, ap, ◌∙◌, ⊎_elim, arith}
use Rattle.std.proofs.lemmas.Bool.{cases_Bool}
use Rattle.std.proofs.lemmas.List.Sums.{sum_by-cons, sum_by-append}
use Rattle.std.proofs.lemmas.List.Sorted.{IsPermutation-refl, IsPermutation-cons, IsPermutation-remove, IsPermutation-trans, IsPermutation-sym, IsPermutation-append, sum_by-IsPermutation, list_any-IsPermutation}
use Rattle.std.specs.List.{list_any, list_all, cons_option}

module _ {X : Type 0} where
  pub count_by-cons : (p : X → Bool) (x : X) (xs : List X) → count_by p (x ∷ xs) ≡ cond (p x) 1 0 + count_by p xs
  count_by-cons p x xs = sum_by-cons (λ y. cond (p y) 1 0) x xs

  pub count_by-yes : (p : X → Bool) (x : X) (xs : List X) → p x ≡ true → count_by p (x ∷ xs) ≡ 1 + count_by p xs
  count_by-yes p x xs e = count_by-cons p x xs ∙ ap (λ (b : Bool). cond b 1 0 + count_by p xs) e

  pub count_by-no : (p : X → Bool) (x : X) (xs : List X) → p x ≡ false → count_by p (x ∷ xs) ≡ count_by p xs
  count_by-no p x xs e = count_by-cons p x xs ∙ ap (λ (b : Bool). cond b 1 0 + count_by p xs) e ∙ omega arith

  pub count_by-append : (p : X → Bool) (xs ys : List X) → count_by p (xs ++ ys) ≡ count_by p xs + count_by p ys
  count_by-append p xs ys = sum_by-append (λ y. cond (p y) 1 0) xs ys

  pub count_by-IsPermutation : (p : X → Bool) (xs ys : List X) → IsPermutation xs ys → count_by p ys ≡ count_by p xs
  count_by-IsPermutation p xs ys h = sum_by-IsPermutation (λ y. cond (p y) 1 0) xs ys h

  module _ (same : X → X → Bool) (decides : (x y : X) → Decides (same x y) (x ≡ y)) where
    pub same_itself : (x : X) → same x x ≡ true
    same_itself x = (decides x x).1 refl

    found : (x : X) (ys : List X) → 0 < count_by (same x) ys → Contains ys x
    found x [] h = absurd (omega arith)
    found x (y ∷ ys) h =
        ⊎_elim
        (λ (e : same x y ≡ true). (0, omega arith, sym ((decides x y).0 e)))
        (λ (e : same x y ≡ false).
        let c = count_by-no (same x) y ys e in
        let r = found x ys (omega arith) in
        (suc r.0, omega (arith, r.1), r.2))
        (cases_Bool (same x y))

    pub permutation_from_counts : (xs ys : List X) → ((x : X) → count_by (same x) xs ≡ count_by (same x) ys) → IsPermutation xs ys
    permutation_from_counts [] [] h = IsPermutation-refl []
    permutation_from_counts [] (y ∷ ys) h =
        let c = count_by-yes (same y) y ys (same_itself y) in
        let e = h y in
        absurd (omega arith)
    permutation_from_counts (x ∷ xs) ys h =
        let c = count_by-yes (same x) x xs (same_itself x) in
        let e = h x in
        let f = found x ys (omega arith) in
        let p = IsPermutation-remove ys f.0 x f.1 (sym f.2) in
        let same_rest : (z : X) → count_by (same z) xs ≡ count_by (same z) (remove ys f.0) = λ z.
        let a = count_by-cons (same z) x xs in
        let b = count_by-cons (same z) x (remove ys f.0) in
        let q = count_by-IsPermutation (same z) ys (x ∷ remove ys f.0) p in
        let g = h z in
        omega arith
        in
        let i = permutation_from_counts xs (remove ys f.0) same_rest in
        IsPermutation-trans (x ∷ xs) (x ∷ remove ys f.0) ys (IsPermutation-cons x xs (remove ys f.0) i) (IsPermutation-sym ys (x ∷ remove ys f.0) p)

module _ {X Y : Type 0} where
  pub count_by-flat_map : (p : Y → Bool) (f : X → List Y) (xs : List X) → count_by p (flat_map f xs) ≡ sum_by (λ x. count_by p (f x)) xs
  count_by-flat_map p f [] = refl
  count_by-flat_map p f (x ∷ xs) =
      count_by-append p (f x) (flat_map f xs) ∙ ap (λ n. count_by p (f x) + n) (count_by-flat_map p f xs) ∙ sym (sum_by-cons (λ x. count_by p (f x)) x xs)

  -- replacing each row of a multiset by rows gives a multiset
  pub IsPermutation-flat_map : (same : Y → Y → Bool) (decides : (x y : Y) → Decides (same x y) (x ≡ y)) (f : X → List Y) (xs ys : List X) → IsPermutation xs ys → IsPermutation (flat_map f xs) (flat_map f ys)
  IsPermutation-flat_map same decides f xs ys h = permutation_from_counts same decides (flat_map f xs) (flat_map f ys)
      (λ y. count_by-flat_map (same y) f xs ∙ sym (sum_by-IsPermutation (λ x. count_by (same y) (f x)) xs ys h) ∙ sym (count_by-flat_map (same y) f ys))

  pub IsPermutation-flat_map_each : (f g : X → List Y) → ((x : X) → IsPermutation (f x) (g x)) → (xs : List X) → IsPermutation (flat_map f xs) (flat_map g xs)
  IsPermutation-flat_map_each f g h [] = IsPermutation-refl []
  IsPermutation-flat_map_each f g h (x ∷ xs) = IsPermutation-append (f x) (g x) (flat_map f xs) (flat_map g xs) (h x) (IsPermutation-flat_map_each f g h xs)

count_by-of_filter : {X : Type 0} (q p : X → Bool) (xs : List X) → count_by q (filter p xs) ≡ count_by (λ x. p x && q x) xs
count_by-of_filter q p [] = refl
count_by-of_filter {X} q p (x ∷ xs) = by (p x) (count_by-of_filter q p xs) ∙ sym (count_by-cons (λ x. p x && q x) x xs)
  where
    by : (b : Bool) → count_by q (filter p xs) ≡ count_by (λ x. p x && q x) xs → count_by q (cond b (x ∷ filter p xs) (filter p xs)) ≡ cond (b && q x) 1 0 + count_by (λ x. p x && q x) xs
    by true i = count_by-cons q x (filter p xs) ∙ ap (λ n. cond (q x) 1 0 + n) i
    by false i = i ∙ omega arith

-- the element, if any, passes the test
abbrev pub some_passes : {Y : Type 0} → (Y → Bool) → Option Y → Bool
some_passes q None = false
some_passes q (Some y) = q y

pub count_by-filter_map : {X Y : Type 0} (q : Y → Bool) (h : X → Option Y) (xs : List X) → count_by q (filter_map h xs) ≡ count_by (λ x. some_passes q (h x)) xs
count_by-filter_map q h [] = refl
count_by-filter_map {X} {Y} q h (x ∷ xs) = by (h x) (count_by-filter_map q h xs) ∙ sym (count_by-cons (λ x. some_passes q (h x)) x xs)
  where
    by : (o : Option Y) → count_by q (filter_map h xs) ≡ count_by (λ x. some_passes q (h x)) xs → count_by q (cons_option o (filter_map h xs)) ≡ cond (some_passes q o) 1 0 + count_by (λ x. some_passes q (h x)) xs
    by None i = i ∙ omega arith
    by (Some y) i = count_by-cons q y (filter_map h xs) ∙ ap (λ n. cond (q y) 1 0 + n) i

module _ {X : Type 0} (same : X → X → Bool) (decides : (x y : X) → Decides (same x y) (x ≡ y)) where
  -- a multiset without the elements that do not pass
  pub IsPermutation-filter : (p : X → Bool) (xs ys : List X) → IsPermutation xs ys → IsPermutation (filter p xs) (filter p ys)
  IsPermutation-filter p xs ys h = permutation_from_counts same decides (filter p xs) (filter p ys)
      (λ z. count_by-of_filter (same z) p xs ∙ sym (count_by-IsPermutation (λ x. p x && same z x) xs ys h) ∙ sym (count_by-of_filter (same z) p ys))

  pub IsPermutation-filter_map : {W : Type 0} (f : W → Option X) (xs ys : List W) → IsPermutation xs ys → IsPermutation (filter_map f xs) (filter_map f ys)
  IsPermutation-filter_map f xs ys h = permutation_from_counts same decides (filter_map f xs) (filter_map f ys)
      (λ z. count_by-filter_map (same z) f xs ∙ sym (count_by-IsPermutation (λ x. some_passes (same z) (f x)) xs ys h) ∙ sym (count_by-filter_map (same z) f ys))

-- equal lists are the same multiset
pub same_bag : {X : Type 0} (xs ys : List X) → xs ≡ ys → IsPermutation xs ys
same_bag xs ys e = subst (λ l. IsPermutation xs l) e (IsPermutation-refl xs)

pub list_all-as_any : {X : Type 0} (p : X → Bool) (xs : List X) → list_all p xs ≡ not (list_any (λ x. not (p x)) xs)
list_all-as_any p [] = refl
list_all-as_any {X} p (x ∷ xs) = by (p x) (list_all-as_any p xs)
  where
    by : (b : Bool) → list_all p xs ≡ not (list_any (λ x. not (p x)) xs) → (b && list_all p xs) ≡ not (not b || list_any (λ x. not (p x)) xs)
    by true i = i
    by false i = refl

pub list_all-IsPermutation : {X : Type 0} (p : X → Bool) (xs ys : List X) → IsPermutation xs ys → list_all p xs ≡ list_all p ys
list_all-IsPermutation p xs ys h = list_all-as_any p xs ∙ ap not (list_any-IsPermutation (λ x. not (p x)) xs ys h) ∙ sym (list_all-as_any p ys)
