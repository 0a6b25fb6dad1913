-- The number of distinct elements of a list, and of its partitions.
use Rattle.std.proofs.Common.{eq-eqb, ◌≡◌, ℕ, zero, suc, ◌+◌, ◌<◌, ◌≤◌, Bool, true, false, cond, eqb, not, ◌&&◌, ◌||◌, List, [], ◌∷◌, length, map, filter, Decides, refl, sym, ap, ◌∙◌, ⊎_elim, arith}
use Rattle.std.specs.List.{list_any}
use Rattle.std.proofs.lemmas.Bool.{cases_Bool, eqb-true, false≢true}
use Rattle.std.specs.Str.{bytes_eq}
use Rattle.std.proofs.lemmas.List.Sorted.{length_permutation}
use Rattle.std.proofs.lemmas.Slice.Eq.{bytes_eq-Decides}
use Rattle.algebra_model.specs.Bag.{IsWithoutRepeats, without_repeats}
use Rattle.algebra_model.proofs.BagLaws.{permutation_from_counts}
use Rattle.algebra_model.proofs.RepeatLaws.{IsWithoutRepeats-filter, IsWithoutRepeats-without_repeats, any-without_repeats_is, count_by-without_repeats}
use Rattle.algebra_model.proofs.SolveLaws.{count_by_one}
use Rattle.rdf_core.proofs.EscapeSteps.{eqb_no}
use Rattle.quad_index.specs.Parts.{sum_below}
use Rattle.cluster_parts.proofs.Each.{Each, Each-without_repeats}

-- ---- sums

pub sum_below-same : (f g : ℕ → ℕ) → ((n : ℕ) → f n ≡ g n) → (k : ℕ) → sum_below f k ≡ sum_below g k
sum_below-same f g h zero = refl
sum_below-same f g h (suc k) = (λ i. sum_below-same f g h k i + h k i)

pub sum_below-plus : (f g : ℕ → ℕ) (k : ℕ) → sum_below (λ n. f n + g n) k ≡ sum_below f k + sum_below g k
sum_below-plus f g zero = refl
sum_below-plus f g (suc k) = let ih = sum_below-plus f g k in omega (arith, ih)

none_below : (m k : ℕ) → k ≤ m → sum_below (λ n. cond (eqb m n) 1 0) k ≡ 0
none_below m zero h = refl
none_below m (suc k) h =
    let ih = none_below m k (omega arith) in
    let apart : eqb m k ≡ false = eqb_no m k (λ e. absurd (omega (arith, e))) in
    (λ i. ih i + cond (apart i) 1 0)

one_below : (m k : ℕ) → m < k → sum_below (λ n. cond (eqb m n) 1 0) k ≡ 1
one_below m zero h = absurd (omega arith)
one_below m (suc k) h =
    ⊎_elim
    (λ (e : eqb m k ≡ true).
    let none = none_below m k (omega (arith, eqb-true m k e)) in
    (λ i. none i + cond (e i) 1 0))
    (λ (e : eqb m k ≡ false).
    let one = one_below m k (omega (arith, not_last e)) in
    (λ i. one i + cond (e i) 1 0) ∙ omega arith)
    (cases_Bool (eqb m k))
  where
    not_last : eqb m k ≡ false → m ≡ k → ⊥
    not_last e same = false≢true (sym e ∙ ap (λ n. eqb m n) (sym same) ∙ eq-eqb m m refl)

-- ---- partitions of a list

zeros : (k : ℕ) → sum_below (λ n. 0) k ≡ 0
zeros zero = refl
zeros (suc k) = let ih = zeros k in omega (arith, ih)

pub sum_of_parts : {X : Type 0} (part : X → ℕ) (k : ℕ) → ((x : X) → part x < k) → (xs : List X)
    → sum_below (λ n. length (filter (λ x. eqb (part x) n) xs)) k ≡ length xs
sum_of_parts part k below [] = zeros k
sum_of_parts {X} part k below (x ∷ xs) =
    let ih = sum_of_parts part k below xs in
    let one = one_below (part x) k (below x) in
    sum_below-same (λ n. length (filter (λ y. eqb (part y) n) (x ∷ xs))) (λ n. cond (eqb (part x) n) 1 0 + length (filter (λ y. eqb (part y) n) xs)) (λ n. by (eqb (part x) n) (filter (λ y. eqb (part y) n) xs)) k
    ∙ sum_below-plus (λ n. cond (eqb (part x) n) 1 0) (λ n. length (filter (λ y. eqb (part y) n) xs)) k
    ∙ omega (arith, ih, one)
  where
    by : (b : Bool) (ys : List X) → length (cond b (x ∷ ys) ys) ≡ cond b 1 0 + length ys
    by true ys = omega arith
    by false ys = omega arith

-- ---- distinct elements

and_or : (a b c : Bool) → (a && (b || c)) ≡ ((a && b) || (a && c))
and_or true b c = refl
and_or false b c = refl

none_and : (a : Bool) → false ≡ (a && false)
none_and true = refl
none_and false = refl

and_true : (a : Bool) → (a && true) ≡ a
and_true true = refl
and_true false = refl

module _ {X : Type 0} (same : X → X → Bool) (decides : (x y : X) → Decides (same x y) (x ≡ y)) where
  -- a list without repeats with the same elements has as many as there are distinct ones
  pub length_of_set : (xs ys : List X) → IsWithoutRepeats same ys → ((x : X) → list_any (same x) xs ≡ list_any (same x) ys) → length (without_repeats same xs) ≡ length ys
  length_of_set xs ys once alike =
      sym (length_permutation (without_repeats same xs) ys (permutation_from_counts same decides (without_repeats same xs) ys
      (λ x. count_by-without_repeats same decides x xs ∙ ap (λ (b : Bool). cond b 1 0) (alike x)
      ∙ sym (count_by_one same (same x) (λ y z p q. (decides y z).1 (sym ((decides x y).0 p) ∙ (decides x z).0 q)) ys once))))

  pub same_length : (xs ys : List X) → ((x : X) → list_any (same x) xs ≡ list_any (same x) ys) → length (without_repeats same xs) ≡ length (without_repeats same ys)
  same_length xs ys alike = length_of_set xs (without_repeats same ys) (IsWithoutRepeats-without_repeats same ys) (λ x. alike x ∙ sym (any-without_repeats_is same decides x ys))

  pub any-filter_is : (q : X → Bool) (x : X) (xs : List X) → list_any (same x) (filter q xs) ≡ (q x && list_any (same x) xs)
  any-filter_is q x [] = none_and (q x)
  any-filter_is q x (y ∷ ys) = by (q y) refl (any-filter_is q x ys)
    where
      here : (b : Bool) → q y ≡ b → (same x y && b) ≡ (q x && same x y)
      here b e = ⊎_elim
          (λ (t : same x y ≡ true). (λ i. t i && b) ∙ sym ((λ i. q ((decides x y).0 t i) && t i) ∙ and_true (q y) ∙ e))
          (λ (t : same x y ≡ false). (λ i. t i && b) ∙ sym ((λ i. q x && t i) ∙ sym (none_and (q x))))
          (cases_Bool (same x y))

      by : (b : Bool) → q y ≡ b → list_any (same x) (filter q ys) ≡ (q x && list_any (same x) ys)
          → list_any (same x) (cond b (y ∷ filter q ys) (filter q ys)) ≡ (q x && (same x y || list_any (same x) ys))
      by true e ih = (λ i. (sym (and_true (same x y)) ∙ here true e) i || ih i) ∙ sym (and_or (q x) (same x y) (list_any (same x) ys))
      by false e ih = ih ∙ ap (λ b. b || (q x && list_any (same x) ys)) (none_and (same x y) ∙ here false e) ∙ sym (and_or (q x) (same x y) (list_any (same x) ys))

  -- The distinct elements of a list are those of its partitions: `lists n` has the elements of partition n, however often.
  pub parts_add_up : (part : X → ℕ) (k : ℕ) → ((x : X) → part x < k) → (xs : List X) (lists : ℕ → List X)
      → ((n : ℕ) (x : X) → list_any (same x) (lists n) ≡ (eqb (part x) n && list_any (same x) xs))
      → sum_below (λ n. length (without_repeats same (lists n))) k ≡ length (without_repeats same xs)
  parts_add_up part k below xs lists are =
      let all = without_repeats same xs in
      sum_below-same (λ n. length (without_repeats same (lists n))) (λ n. length (filter (λ x. eqb (part x) n) all))
      (λ n. length_of_set (lists n) (filter (λ x. eqb (part x) n) all)
      (IsWithoutRepeats-filter same (λ x. eqb (part x) n) all (IsWithoutRepeats-without_repeats same xs))
      (λ x. are n x ∙ ap (λ b. eqb (part x) n && b) (sym (any-without_repeats_is same decides x xs)) ∙ sym (any-filter_is (λ y. eqb (part y) n) x all)))
      k
      ∙ sum_of_parts part k below all

-- ---- distinct elements and their texts

-- elements with different texts are compared by their texts
pub same_text : {X : Type 0} (same : X → X → Bool) → ((x y : X) → Decides (same x y) (x ≡ y)) → (f : X → List ℕ) (x y : X) → (f x ≡ f y → x ≡ y) → bytes_eq (f x) (f y) ≡ same x y
same_text same decides f x y apart = by (bytes_eq (f x) (f y)) (same x y) refl refl
  where
    by : (a b : Bool) → bytes_eq (f x) (f y) ≡ a → same x y ≡ b → a ≡ b
    by true true p q = refl
    by false false p q = refl
    by true false p q = absurd (false≢true (sym q ∙ (decides x y).1 (apart ((bytes_eq-Decides (f x) (f y)).0 p))))
    by false true p q = absurd (false≢true (sym p ∙ (bytes_eq-Decides (f x) (f y)).1 (ap f ((decides x y).0 q))))

pub map-filter : {X Y : Type 0} (f : X → Y) (p : Y → Bool) (xs : List X) → filter p (map f xs) ≡ map f (filter (λ x. p (f x)) xs)
map-filter f p [] = refl
map-filter f p (x ∷ xs) = by (p (f x)) (map-filter f p xs)
  where
    by : (b : Bool) → filter p (map f xs) ≡ map f (filter (λ x. p (f x)) xs) → cond b (f x ∷ filter p (map f xs)) (filter p (map f xs)) ≡ map f (cond b (x ∷ filter (λ x. p (f x)) xs) (filter (λ x. p (f x)) xs))
    by true e = ap (λ l. f x ∷ l) e
    by false e = e

-- a function that is one-to-one on the elements of a list, applied to the distinct ones
pub without_repeats-map : {X Y : Type 0} (P : X → Type 0) (same : X → X → Bool) (same' : Y → Y → Bool) (f : X → Y) → ((x y : X) → P x → P y → same' (f x) (f y) ≡ same x y) → (xs : List X) → Each P xs
    → without_repeats same' (map f xs) ≡ map f (without_repeats same xs)
without_repeats-map P same same' f h [] good = refl
without_repeats-map {X} P same same' f h (x ∷ xs) good =
    let rest = without_repeats same xs in
    ap (λ l. f x ∷ filter (λ y. not (same' (f x) y)) l) (without_repeats-map P same same' f h xs good.1)
    ∙ ap (λ l. f x ∷ l) (map-filter f (λ y. not (same' (f x) y)) rest ∙ ap (map f) (agree rest (Each-without_repeats P same xs good.1)))
  where
    agree : (ys : List X) → Each P ys → filter (λ y. not (same' (f x) (f y))) ys ≡ filter (λ y. not (same x y)) ys
    agree [] g = refl
    agree (y ∷ ys) g = λ i. cond (not (h x y good.0 g.0 i)) (y ∷ agree ys g.1 i) (agree ys g.1 i)
