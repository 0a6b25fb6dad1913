-- Lists that are the same set, and what is equal for both: the solutions of a basic graph pattern.
use Rattle.std.proofs.Common.{◌≡◌, ℕ, zero, suc, ◌+◌, ◌<◌, Bool, true, false, cond, ◌&&◌, ◌||◌, List, [], ◌∷◌, length, get_or, take, map, filter, filter_map, Option, None, Some, Decides, IsPermutation, Contains, refl, sym, ap, ◌∙◌, ⊎_elim, arith}
use Rattle.std.proofs.lemmas.Bool.{or_cases, false≢true}
use Rattle.std.specs.Cmp.{both_ways}
use Rattle.std.specs.Option.{option_eq}
use Rattle.std.specs.List.{list_any, cons_option}
use Rattle.std.proofs.lemmas.List.Sorted.{IsPermutation-map, Contains-permutation, IsPermutation-sym}
use Rattle.algebra_model.specs.Bag.{IsSameBag, IsSameSet, without_repeats}
use Rattle.algebra_model.specs.Solution.{Solution, same_solution}
use Rattle.algebra_model.specs.Bgp.{Triple, TriplePattern, occurs, is_in, takes_to, every_map, occurring, terms, bgp}
use Rattle.algebra_model.proofs.BagLaws.{permutation_from_counts, some_passes}
use Rattle.algebra_model.proofs.RepeatLaws.{any-map, any-without_repeats_is, count_by-without_repeats, IsWithoutRepeats-without_repeats}
use Rattle.algebra_model.proofs.BgpLaws.{in_maps, choices, count_by-every_map, count_by-filter, solution_decides}

-- a test has the same result on both lists
abbrev pub AreAlike : {X : Type 0} → List X → List X → Type 0
AreAlike {X} xs ys = (p : X → Bool) → list_any p xs ≡ list_any p ys

or_right : (a b : Bool) → b ≡ true → (a || b) ≡ true
or_right true b e = refl
or_right false b e = e

any_at : {X : Type 0} (p : X → Bool) (xs : List X) (x : X) (k : ℕ) → k < length xs → get_or xs k x ≡ x → p x ≡ true → list_any p xs ≡ true
any_at p [] x k l e h = absurd (omega arith)
any_at p (y ∷ xs) x zero l e h = ap (λ b. b || list_any p xs) (ap p e ∙ h)
any_at p (y ∷ xs) x (suc k) l e h = or_right (p y) (list_any p xs) (any_at p xs x k (omega arith) e h)

any_found : {X : Type 0} (p : X → Bool) (xs : List X) → list_any p xs ≡ true → (x : X) × Contains xs x × (p x ≡ true)
any_found p [] e = absurd (false≢true e)
any_found p (x ∷ xs) e =
    let more = λ (t : list_any p xs ≡ true). any_found p xs t in
    ⊎_elim
    (λ (t : p x ≡ true). (x, (0, omega arith, refl), t))
    (λ (t : list_any p xs ≡ true). let r = more t in (r.0, (suc r.1.0, omega (arith, r.1.1), r.1.2), r.2))
    (or_cases (p x) (list_any p xs) e)

pub alike_from_set : {X : Type 0} (xs ys : List X) → IsSameSet xs ys → AreAlike xs ys
alike_from_set xs ys h p = both_ways (list_any p xs) (list_any p ys)
    (λ e. let r = any_found p xs e in let c = (h r.0).0 r.1 in any_at p ys r.0 c.0 c.1 c.2 r.2)
    (λ e. let r = any_found p ys e in let c = (h r.0).1 r.1 in any_at p xs r.0 c.0 c.1 c.2 r.2)

pub set_from_permutation : {X : Type 0} (xs ys : List X) → IsPermutation xs ys → IsSameSet xs ys
set_from_permutation xs ys h x = (Contains-permutation xs ys x h, Contains-permutation ys xs x (IsPermutation-sym xs ys h))

any-of_filter : {X : Type 0} (p q : X → Bool) (xs : List X) → list_any p (filter q xs) ≡ list_any (λ x. q x && p x) xs
any-of_filter p q [] = refl
any-of_filter {X} p q (x ∷ xs) = by (q x) (any-of_filter p q xs)
  where
    by : (b : Bool) → list_any p (filter q xs) ≡ list_any (λ x. q x && p x) xs → list_any p (cond b (x ∷ filter q xs) (filter q xs)) ≡ ((b && p x) || list_any (λ x. q x && p x) xs)
    by true i = ap (λ b. p x || b) i
    by false i = i

any-of_filter_map : {X Y : Type 0} (p : Y → Bool) (h : X → Option Y) (xs : List X) → list_any p (filter_map h xs) ≡ list_any (λ x. some_passes p (h x)) xs
any-of_filter_map p h [] = refl
any-of_filter_map {X} {Y} p h (x ∷ xs) = by (h x) (any-of_filter_map p h xs)
  where
    by : (o : Option Y) → list_any p (filter_map h xs) ≡ list_any (λ x. some_passes p (h x)) xs → list_any p (cons_option o (filter_map h xs)) ≡ (some_passes p o || list_any (λ x. some_passes p (h x)) xs)
    by None i = i
    by (Some y) i = ap (λ b. p y || b) i

any-of_occurring : {T : Type 0} (p : T → Bool) (G : List (Triple T)) → list_any p (occurring G) ≡ list_any (λ g. p g.s || (p g.p || p g.o)) G
any-of_occurring p [] = refl
any-of_occurring p (g ∷ G) = ap (λ b. p g.s || (p g.p || (p g.o || b))) (any-of_occurring p G) ∙ regroup (p g.s) (p g.p) (p g.o) (list_any (λ g. p g.s || (p g.p || p g.o)) G)
  where
    regroup : (a b c d : Bool) → (a || (b || (c || d))) ≡ ((a || (b || c)) || d)
    regroup true b c d = refl
    regroup false true c d = refl
    regroup false false c d = refl

pub alike-filter : {X : Type 0} (q : X → Bool) (xs ys : List X) → AreAlike xs ys → AreAlike (filter q xs) (filter q ys)
alike-filter q xs ys h p = any-of_filter p q xs ∙ h (λ x. q x && p x) ∙ sym (any-of_filter p q ys)

pub alike-map : {X Y : Type 0} (f : X → Y) (xs ys : List X) → AreAlike xs ys → AreAlike (map f xs) (map f ys)
alike-map f xs ys h p = any-map p f xs ∙ h (λ x. p (f x)) ∙ sym (any-map p f ys)

pub alike-filter_map : {X Y : Type 0} (f : X → Option Y) (xs ys : List X) → AreAlike xs ys → AreAlike (filter_map f xs) (filter_map f ys)
alike-filter_map f xs ys h p = any-of_filter_map p f xs ∙ h (λ x. some_passes p (f x)) ∙ sym (any-of_filter_map p f ys)

pub alike-occurring : {T : Type 0} (G H : List (Triple T)) → AreAlike G H → AreAlike (occurring G) (occurring H)
alike-occurring G H h p = any-of_occurring p G ∙ h (λ g. p g.s || (p g.p || p g.o)) ∙ sym (any-of_occurring p H)

module _ {X : Type 0} (same : X → X → Bool) (decides : (x y : X) → Decides (same x y) (x ≡ y)) where
  -- lists that are the same set are the same multiset without their repeats
  pub without_repeats-alike : (xs ys : List X) → AreAlike xs ys → IsSameBag (without_repeats same xs) (without_repeats same ys)
  without_repeats-alike xs ys h = permutation_from_counts same decides (without_repeats same xs) (without_repeats same ys)
      (λ x. count_by-without_repeats same decides x xs ∙ ap (λ (b : Bool). cond b 1 0) (h (same x)) ∙ sym (count_by-without_repeats same decides x ys))

module _ {T : Type 0} (same : T → T → Bool) (decides : (x y : T) → Decides (same x y) (x ≡ y)) where
  any_choice : (z : Option T) (ts us : List T) → ((x : T) → list_any (same x) ts ≡ list_any (same x) us) → list_any (option_eq same z) (map Some ts) ≡ list_any (option_eq same z) (map Some us)
  any_choice None ts us h = none ts ∙ sym (none us)
    where
      none : (ts : List T) → list_any (option_eq same None) (map Some ts) ≡ false
      none [] = refl
      none (t ∷ ts) = none ts
  any_choice (Some z) ts us h = any-map (option_eq same (Some z)) Some ts ∙ h z ∙ sym (any-map (option_eq same (Some z)) Some us)

  in_maps-same : (ts us : List T) → ((x : T) → list_any (same x) ts ≡ list_any (same x) us) → (U : ℕ → Bool) (n : ℕ) (M : Solution T) → in_maps same decides U ts n M ≡ in_maps same decides U us n M
  in_maps-same ts us h U zero [] = refl
  in_maps-same ts us h U zero (z ∷ M) = refl
  in_maps-same ts us h U (suc n) [] = refl
  in_maps-same ts us h U (suc n) (z ∷ M) = λ i. first (U 0) i && in_maps-same ts us h (λ k. U (suc k)) n M i
    where
      first : (u : Bool) → list_any (option_eq same z) (choices u ts) ≡ list_any (option_eq same z) (choices u us)
      first true = any_choice z ts us h
      first false = refl

  is_in-same : (w : ℕ) (P : List (TriplePattern T)) (G H : List (Triple T)) → AreAlike G H → (M : Solution T) → is_in same w P G M ≡ is_in same w P H M
  is_in-same w [] G H h M = refl
  is_in-same w (t ∷ P) G H h M = λ i. h (takes_to same w M t) i && is_in-same w P G H h M i

  -- the solutions depend on which triples are in the graph, and on nothing else
  pub bgp-alike : (w l : ℕ) (P : List (TriplePattern T)) (G H : List (Triple T)) → AreAlike G H → IsSameBag (bgp same w l P G) (bgp same w l P H)
  bgp-alike w l P G H h =
      let once = IsWithoutRepeats-without_repeats same in
      IsPermutation-map (take w) (filter (is_in same w P G) (every_map (occurs w P) (terms same G) (w + l))) (filter (is_in same w P H) (every_map (occurs w P) (terms same H) (w + l)))
      (permutation_from_counts (same_solution same) (solution_decides same decides) _ _
      (λ M.
      let same_members = λ (x : T). any-without_repeats_is same decides x (occurring G) ∙ alike-occurring G H h (same x) ∙ sym (any-without_repeats_is same decides x (occurring H)) in
      count_by-filter same decides (is_in same w P G) M (every_map (occurs w P) (terms same G) (w + l))
      ∙ ap (λ c. cond (is_in same w P G M) c 0) (count_by-every_map same decides (terms same G) (once (occurring G)) (occurs w P) (w + l) M)
      ∙ (λ i. cond (is_in-same w P G H h M i) (cond (in_maps-same (terms same G) (terms same H) same_members (occurs w P) (w + l) M i) 1 0) 0)
      ∙ ap (λ c. cond (is_in same w P H M) c 0) (sym (count_by-every_map same decides (terms same H) (once (occurring H)) (occurs w P) (w + l) M))
      ∙ sym (count_by-filter same decides (is_in same w P H) M (every_map (occurs w P) (terms same H) (w + l)))))
