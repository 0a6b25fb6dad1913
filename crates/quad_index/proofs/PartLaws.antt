-- Parts of a list, which are counted by themselves.
use Rattle.std.proofs.Common.{◌≡◌, ℕ, zero, suc, ◌+◌, ◌<◌, ◌≤◌, Bool, true, false, not, cond, eqb, eq-eqb, List, [], ◌∷◌, length, filter, nat_eq, Decides, refl, sym, ap, ◌∙◌, subst, ⊎_elim, arith}
use Rattle.std.proofs.lemmas.Bool.{cases_Bool, eqb-true, false≢true}
use Rattle.std.proofs.lemmas.Bool.Decides.{Decides-eqb}
use Rattle.std.proofs.lemmas.Nat.{mod_below}
use Rattle.std.proofs.lemmas.List.Sorted.{IsPermutation-refl, length_permutation}
use Rattle.rdf_core.proofs.EscapeSteps.{eqb_no}
use Rattle.algebra_model.specs.Bag.{without_repeats}
use Rattle.algebra_model.proofs.SetLaws.{alike_from_set, alike-filter_map, without_repeats-alike}
use Rattle.dict_core.specs.declared.num_quad.NumQuad.{NumQuad}
use Rattle.dict_core.proofs.NumQuadLaws.{quad_eq, quad_decides}
use Rattle.quad_index.specs.Matching.{graph_names}
use Rattle.quad_index.specs.Parts.{count_in_part, is_in, part_of, parts, sum_below}
use Rattle.quad_index.specs.Counting.{PartsCountTheQuads}
use Rattle.quad_index.proofs.ReadingLaws.{set_of_once}

-- ---- sums

sum_below-same : (f g : ℕ → ℕ) → ((n : ℕ) → f n ≡ g n) → (k : ℕ) → sum_below f k ≡ sum_below g k
sum_below-same f g h zero = refl
sum_below-same f g h (suc k) = (λ i. sum_below-same f g h k i + h k i)

sum_below-plus : (f g : ℕ → ℕ) (k : ℕ) → sum_below (λ n. f n + g n) k ≡ sum_below f k + sum_below g k
sum_below-plus f g zero = refl
sum_below-plus f g (suc k) = let ih = sum_below-plus f g k in omega (arith, ih)

none_below : (m k : ℕ) → k ≤ m → sum_below (λ n. cond (eqb m n) 1 0) k ≡ 0
none_below m zero h = refl
none_below m (suc k) h =
    let ih = none_below m k (omega arith) in
    let apart : eqb m k ≡ false = eqb_no m k (λ e. absurd (omega (arith, e))) in
    (λ i. ih i + cond (apart i) 1 0)

one_below : (m k : ℕ) → m < k → sum_below (λ n. cond (eqb m n) 1 0) k ≡ 1
one_below m zero h = absurd (omega arith)
one_below m (suc k) h =
    ⊎_elim
    (λ (e : eqb m k ≡ true).
    let none = none_below m k (omega (arith, eqb-true m k e)) in
    (λ i. none i + cond (e i) 1 0))
    (λ (e : eqb m k ≡ false).
    let one = one_below m k (omega (arith, not_last e)) in
    (λ i. one i + cond (e i) 1 0) ∙ omega arith)
    (cases_Bool (eqb m k))
  where
    not_last : eqb m k ≡ false → m ≡ k → ⊥
    not_last e same = false≢true (sym e ∙ ap (λ n. eqb m n) (sym same) ∙ eq-eqb m m refl)

zeros : (k : ℕ) → sum_below (λ n. 0) k ≡ 0
zeros zero = refl
zeros (suc k) = let ih = zeros k in omega (arith, ih)

pub sum_more : (f : ℕ → ℕ) (k : ℕ) → sum_below f (k + 1) ≡ sum_below f k + f k
sum_more f k = let next : k + 1 ≡ suc k = omega arith in ap (sum_below f) next

sum_rises : (f : ℕ → ℕ) (k m : ℕ) → k ≤ m → sum_below f k ≤ sum_below f m
sum_rises f k zero h = let none : k ≡ 0 = omega arith in subst (λ n. sum_below f n ≤ 0) (sym none) (omega arith)
sum_rises f k (suc m) h =
    ⊎_elim
    (λ (e : eqb k (suc m) ≡ true). subst (λ n. sum_below f k ≤ sum_below f n) (eqb-true k (suc m) e) (omega arith))
    (λ (e : eqb k (suc m) ≡ false). let ih = sum_rises f k m (omega (arith, h, other e)) in omega (arith, ih))
    (cases_Bool (eqb k (suc m)))
  where
    other : eqb k (suc m) ≡ false → k ≡ suc m → ⊥
    other e same = false≢true (sym e ∙ eq-eqb k (suc m) same)

-- each element is in one part
sum_of_parts : {X : Type 0} (part : X → ℕ) (k : ℕ) → ((x : X) → part x < k) → (xs : List X)
    → sum_below (λ n. length (filter (λ x. eqb (part x) n) xs)) k ≡ length xs
sum_of_parts part k below [] = zeros k
sum_of_parts {X} part k below (x ∷ xs) =
    let ih = sum_of_parts part k below xs in
    let one = one_below (part x) k (below x) in
    sum_below-same (λ n. length (filter (λ y. eqb (part y) n) (x ∷ xs))) (λ n. cond (eqb (part x) n) 1 0 + length (filter (λ y. eqb (part y) n) xs)) (λ n. by (eqb (part x) n) (filter (λ y. eqb (part y) n) xs)) k
    ∙ sum_below-plus (λ n. cond (eqb (part x) n) 1 0) (λ n. length (filter (λ y. eqb (part y) n) xs)) k
    ∙ omega (arith, ih, one)
  where
    by : (b : Bool) (ys : List X) → length (cond b (x ∷ ys) ys) ≡ cond b 1 0 + length ys
    by true ys = omega arith
    by false ys = omega arith

-- ---- distinct elements

-- the elements that pass both tests, in whichever order they are tested
filters_swap : {X : Type 0} (p q : X → Bool) (xs : List X) → filter p (filter q xs) ≡ filter q (filter p xs)
filters_swap p q [] = refl
filters_swap {X} p q (x ∷ xs) = by (p x) refl (q x) refl (filters_swap p q xs)
  where
    by : (a : Bool) → p x ≡ a → (b : Bool) → q x ≡ b → filter p (filter q xs) ≡ filter q (filter p xs)
        → filter p (cond b (x ∷ filter q xs) (filter q xs)) ≡ filter q (cond a (x ∷ filter p xs) (filter p xs))
    by true e true f ih = ap (λ c. cond c (x ∷ filter p (filter q xs)) (filter p (filter q xs))) e ∙ ap (λ l. x ∷ l) ih
        ∙ sym (ap (λ c. cond c (x ∷ filter q (filter p xs)) (filter q (filter p xs))) f)
    by true e false f ih = ih ∙ sym (ap (λ c. cond c (x ∷ filter q (filter p xs)) (filter q (filter p xs))) f)
    by false e true f ih = ap (λ c. cond c (x ∷ filter p (filter q xs)) (filter p (filter q xs))) e ∙ ih
    by false e false f ih = ih

module _ {X : Type 0} (same : X → X → Bool) (decides : (x y : X) → Decides (same x y) (x ≡ y)) (p : X → Bool) where
  -- an element that fails the test is not the same as one that passes it
  none_same : (x : X) → p x ≡ false → (ys : List X) → filter (λ y. not (same x y)) (filter p ys) ≡ filter p ys
  none_same x e [] = refl
  none_same x e (y ∷ ys) = by (p y) refl (none_same x e ys)
    where
      other : p y ≡ true → same x y ≡ false
      other t = ⊎_elim
          (λ (s : same x y ≡ true). absurd (false≢true (sym e ∙ ap p ((decides x y).0 s) ∙ t)))
          (λ (s : same x y ≡ false). s)
          (cases_Bool (same x y))

      by : (b : Bool) → p y ≡ b → filter (λ y. not (same x y)) (filter p ys) ≡ filter p ys
          → filter (λ y. not (same x y)) (cond b (y ∷ filter p ys) (filter p ys)) ≡ cond b (y ∷ filter p ys) (filter p ys)
      by true t ih = ap (λ c. cond (not c) (y ∷ filter (λ z. not (same x z)) (filter p ys)) (filter (λ z. not (same x z)) (filter p ys))) (other t) ∙ ap (λ l. y ∷ l) ih
      by false t ih = ih

  -- the distinct elements that pass are those of the elements that pass
  once_filter : (xs : List X) → without_repeats same (filter p xs) ≡ filter p (without_repeats same xs)
  once_filter [] = refl
  once_filter (x ∷ xs) = by (p x) refl (once_filter xs)
    where
      by : (b : Bool) → p x ≡ b → without_repeats same (filter p xs) ≡ filter p (without_repeats same xs)
          → without_repeats same (cond b (x ∷ filter p xs) (filter p xs)) ≡ cond b (x ∷ filter p (filter (λ y. not (same x y)) (without_repeats same xs))) (filter p (filter (λ y. not (same x y)) (without_repeats same xs)))
      by true e ih = ap (λ l. x ∷ l) (ap (filter (λ y. not (same x y))) ih ∙ filters_swap (λ y. not (same x y)) p (without_repeats same xs))
      by false e ih = ih ∙ sym (none_same x e (without_repeats same xs)) ∙ filters_swap (λ y. not (same x y)) p (without_repeats same xs)

filter_shorter : {X : Type 0} (p : X → Bool) (xs : List X) → length (filter p xs) ≤ length xs
filter_shorter p [] = omega arith
filter_shorter {X} p (x ∷ xs) = by (p x) (filter_shorter p xs)
  where
    by : (b : Bool) → length (filter p xs) ≤ length xs → length (cond b (x ∷ filter p xs) (filter p xs)) ≤ length (x ∷ xs)
    by true h = omega (arith, h)
    by false h = omega (arith, h)

few_distinct : {X : Type 0} (same : X → X → Bool) (xs : List X) → length (without_repeats same xs) ≤ length xs
few_distinct same [] = omega arith
few_distinct same (x ∷ xs) =
    let ih = few_distinct same xs in
    let shorter = filter_shorter (λ y. not (same x y)) (without_repeats same xs) in
    omega (arith, ih, shorter)

-- ---- quads

part_below : (q : NumQuad) → part_of q < parts
part_below q = mod_below _ 8 (omega arith)

parts_sum : (quads : List NumQuad) → sum_below (λ part. count_in_part part quads) parts ≡ length (without_repeats quad_eq quads)
parts_sum quads =
    sum_below-same (λ part. count_in_part part quads) (λ part. length (filter (is_in part) (without_repeats quad_eq quads)))
    (λ part. ap length (once_filter quad_eq quad_decides (is_in part) quads)) parts
    ∙ sum_of_parts part_of parts part_below (without_repeats quad_eq quads)

-- the sum never exceeds the number of quads
pub parts_within : (quads : List NumQuad) (k : ℕ) → k ≤ parts → sum_below (λ part. count_in_part part quads) k ≤ length quads
parts_within quads k low =
    let rises = sum_rises (λ part. count_in_part part quads) k parts low in
    let all = parts_sum quads in
    let few = few_distinct quad_eq quads in
    omega (arith, rises, all, few)

names_once_each : (quads : List NumQuad) → length (without_repeats nat_eq (graph_names quads)) ≡ length (without_repeats nat_eq (graph_names (without_repeats quad_eq quads)))
names_once_each quads =
    let once = without_repeats quad_eq quads in
    let alike = alike_from_set once quads (set_of_once quad_eq quad_decides quads once (IsPermutation-refl once)) in
    length_permutation (without_repeats nat_eq (graph_names once)) (without_repeats nat_eq (graph_names quads))
    (without_repeats-alike nat_eq Decides-eqb (graph_names once) (graph_names quads) (alike-filter_map (λ (q : NumQuad). q.g) once quads alike))

pub parts_count : PartsCountTheQuads
parts_count quads counts quads_are graphs_are = record {
  index = without_repeats quad_eq quads;
  each_once = IsPermutation-refl (without_repeats quad_eq quads);
  quad_count = quads_are ∙ parts_sum quads;
  graph_count = graphs_are ∙ names_once_each quads;
}
