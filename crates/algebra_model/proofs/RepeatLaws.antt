-- Lists without repeats, and their elements.
use Rattle.std.proofs.Common.{◌≡◌, Bool, true, false, cond, not, ◌||◌, List, [], ◌∷◌, map, filter, Decides, IsPermutation, count_by, refl, sym, ap, ◌∙◌, ⊎_elim}
use Rattle.std.proofs.lemmas.Bool.{cases_Bool, false≢true, or_cases}
use Rattle.std.specs.Cmp.{both_ways}
use Rattle.std.specs.List.{list_any}
use Rattle.std.proofs.lemmas.List.Sorted.{list_any-IsPermutation}
use Rattle.algebra_model.specs.Bag.{IsWithoutRepeats, without_repeats}
use Rattle.algebra_model.proofs.BagLaws.{permutation_from_counts}
use Rattle.algebra_model.proofs.SolveLaws.{count_by_one}

pub IsWithoutRepeats-filter : {X : Type 0} (eq : X → X → Bool) (q : X → Bool) (xs : List X) → IsWithoutRepeats eq xs → IsWithoutRepeats eq (filter q xs)
IsWithoutRepeats-filter eq q [] h = tt
IsWithoutRepeats-filter {X} eq q (x ∷ xs) h =
    elim (q x) as (λ b. IsWithoutRepeats eq (cond b (x ∷ filter q xs) (filter q xs))) [
      | true ↦ (none xs h.0, IsWithoutRepeats-filter eq q xs h.1)
      | false ↦ IsWithoutRepeats-filter eq q xs h.1
    ]
  where
    none : (ys : List X) → list_any (eq x) ys ≡ false → list_any (eq x) (filter q ys) ≡ false
    none [] h = refl
    none (y ∷ ys) h =
        let rest : list_any (eq x) ys ≡ false = ⊎_elim
        (λ (r : eq x y ≡ true). absurd (false≢true (sym h ∙ ap (λ b. b || list_any (eq x) ys) r)))
        (λ (r : eq x y ≡ false). sym (ap (λ b. b || list_any (eq x) ys) r) ∙ h)
        (cases_Bool (eq x y)) in
        let here : eq x y ≡ false = ⊎_elim
        (λ (r : eq x y ≡ true). absurd (false≢true (sym h ∙ ap (λ b. b || list_any (eq x) ys) r)))
        (λ (r : eq x y ≡ false). r)
        (cases_Bool (eq x y)) in
        elim (q y) as (λ b. list_any (eq x) (cond b (y ∷ filter q ys) (filter q ys)) ≡ false) [
          | true ↦ ap (λ b. b || list_any (eq x) (filter q ys)) here ∙ none ys rest
          | false ↦ none ys rest
        ]

none_unlike : {X : Type 0} (p : X → Bool) (xs : List X) → list_any p (filter (λ y. not (p y)) xs) ≡ false
none_unlike p [] = refl
none_unlike p (x ∷ xs) =
    ⊎_elim
    (λ (e : p x ≡ true). rw e (none_unlike p xs))
    (λ (e : p x ≡ false). rw e (ap (λ b. b || list_any p (filter (λ y. not (p y)) xs)) e ∙ none_unlike p xs))
    (cases_Bool (p x))

pub IsWithoutRepeats-without_repeats : {X : Type 0} (eq : X → X → Bool) (xs : List X) → IsWithoutRepeats eq (without_repeats eq xs)
IsWithoutRepeats-without_repeats eq [] = tt
IsWithoutRepeats-without_repeats eq (x ∷ xs) = (none_unlike (eq x) (without_repeats eq xs), IsWithoutRepeats-filter eq (λ y. not (eq x y)) (without_repeats eq xs) (IsWithoutRepeats-without_repeats eq xs))

pub any-filter : {X : Type 0} (p q : X → Bool) → ((x : X) → p x ≡ true → q x ≡ true) → (xs : List X) → list_any p xs ≡ true → list_any p (filter q xs) ≡ true
any-filter p q h [] e = e
any-filter p q h (x ∷ xs) e =
    ⊎_elim
    (λ (t : p x ≡ true). rw (h x t) (ap (λ b. b || list_any p (filter q xs)) t))
    (λ (t : p x ≡ false).
    let i = any-filter p q h xs (sym (ap (λ b. b || list_any p xs) t) ∙ e) in
    elim (q x) as (λ b. list_any p (cond b (x ∷ filter q xs) (filter q xs)) ≡ true) [
      | true ↦ ap (λ b. b || list_any p (filter q xs)) t ∙ i
      | false ↦ i
    ])
    (cases_Bool (p x))

pub any-map : {X Y : Type 0} (p : Y → Bool) (f : X → Y) (xs : List X) → list_any p (map f xs) ≡ list_any (λ x. p (f x)) xs
any-map p f [] = refl
any-map p f (x ∷ xs) = ap (λ b. p (f x) || b) (any-map p f xs)

pub IsWithoutRepeats-map : {X Y : Type 0} (eq : X → X → Bool) (eq' : Y → Y → Bool) (f : X → Y) → ((x y : X) → eq' (f x) (f y) ≡ eq x y) → (xs : List X) → IsWithoutRepeats eq xs → IsWithoutRepeats eq' (map f xs)
IsWithoutRepeats-map eq eq' f h [] o = tt
IsWithoutRepeats-map eq eq' f h (x ∷ xs) o = (any-map (eq' (f x)) f xs ∙ ap (λ (q : _ → Bool). list_any q xs) (λ i y. h x y i) ∙ o.0, IsWithoutRepeats-map eq eq' f h xs o.1)

any-unfilter : {X : Type 0} (p q : X → Bool) (xs : List X) → list_any p (filter q xs) ≡ true → list_any p xs ≡ true
any-unfilter p q [] e = e
any-unfilter {X} p q (x ∷ xs) e = by (q x) e (any-unfilter p q xs)
  where
    right : (a b : Bool) → b ≡ true → (a || b) ≡ true
    right true b e = refl
    right false b e = e

    by : (b : Bool) → list_any p (cond b (x ∷ filter q xs) (filter q xs)) ≡ true → (list_any p (filter q xs) ≡ true → list_any p xs ≡ true) → (p x || list_any p xs) ≡ true
    by true e i = ⊎_elim (λ (t : p x ≡ true). ap (λ b. b || list_any p xs) t) (λ (t : list_any p (filter q xs) ≡ true). right (p x) (list_any p xs) (i t)) (or_cases (p x) (list_any p (filter q xs)) e)
    by false e i = right (p x) (list_any p xs) (i e)

module _ {X : Type 0} (same : X → X → Bool) (decides : (x y : X) → Decides (same x y) (x ≡ y)) where
  pub any-without_repeats : (x : X) (xs : List X) → list_any (same x) xs ≡ true → list_any (same x) (without_repeats same xs) ≡ true
  any-without_repeats x [] e = e
  any-without_repeats x (y ∷ xs) e =
      ⊎_elim
      (λ (t : same x y ≡ true). ap (λ b. b || list_any (same x) (filter (λ z. not (same y z)) (without_repeats same xs))) t)
      (λ (t : same x y ≡ false).
      let differ : (z : X) → same x z ≡ true → not (same y z) ≡ true = λ z p.
      ⊎_elim
      (λ (q : same y z ≡ true). absurd (false≢true (sym t ∙ (decides x y).1 ((decides x z).0 p ∙ sym ((decides y z).0 q)))))
      (λ (q : same y z ≡ false). ap not q)
      (cases_Bool (same y z)) in
      ap (λ b. b || list_any (same x) (filter (λ z. not (same y z)) (without_repeats same xs))) t ∙ any-filter (same x) (λ z. not (same y z)) differ (without_repeats same xs) (any-without_repeats x xs (sym (ap (λ b. b || list_any (same x) xs) t) ∙ e)))
      (cases_Bool (same x y))

  any-repeats_only : (x : X) (xs : List X) → list_any (same x) (without_repeats same xs) ≡ true → list_any (same x) xs ≡ true
  any-repeats_only x [] e = e
  any-repeats_only x (y ∷ xs) e =
      let more = λ (t : list_any (same x) (filter (λ z. not (same y z)) (without_repeats same xs)) ≡ true). any-repeats_only x xs (any-unfilter (same x) (λ z. not (same y z)) (without_repeats same xs) t) in
      ⊎_elim
      (λ (t : same x y ≡ true). ap (λ b. b || list_any (same x) xs) t)
      (λ (t : list_any (same x) (filter (λ z. not (same y z)) (without_repeats same xs)) ≡ true). right (same x y) (list_any (same x) xs) (more t))
      (or_cases (same x y) (list_any (same x) (filter (λ z. not (same y z)) (without_repeats same xs))) e)
    where
      right : (a b : Bool) → b ≡ true → (a || b) ≡ true
      right true b e = refl
      right false b e = e

  pub any-without_repeats_is : (x : X) (xs : List X) → list_any (same x) (without_repeats same xs) ≡ list_any (same x) xs
  any-without_repeats_is x xs = both_ways (list_any (same x) (without_repeats same xs)) (list_any (same x) xs) (any-repeats_only x xs) (any-without_repeats x xs)

  pub count_by-without_repeats : (x : X) (xs : List X) → count_by (same x) (without_repeats same xs) ≡ cond (list_any (same x) xs) 1 0
  count_by-without_repeats x xs =
      count_by_one same (same x) (λ y z p q. (decides y z).1 (sym ((decides x y).0 p) ∙ (decides x z).0 q)) (without_repeats same xs) (IsWithoutRepeats-without_repeats same xs) ∙ ap (λ (b : Bool). cond b 1 0) (any-without_repeats_is x xs)

  -- a multiset without its repeats
  pub without_repeats-IsPermutation : (xs ys : List X) → IsPermutation xs ys → IsPermutation (without_repeats same xs) (without_repeats same ys)
  without_repeats-IsPermutation xs ys h = permutation_from_counts same decides (without_repeats same xs) (without_repeats same ys)
      (λ x. count_by-without_repeats x xs ∙ ap (λ (b : Bool). cond b 1 0) (list_any-IsPermutation (same x) xs ys h) ∙ sym (count_by-without_repeats x ys))
