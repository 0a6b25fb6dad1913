-- Trying every map gives the same multiset as building the maps triple pattern by triple pattern.
use Rattle.std.proofs.Common.{◌≡◌, ℕ, zero, suc, ◌+◌, Bool, true, false, cond, ◌&&◌, ◌||◌, List, [], ◌∷◌, get_or, take, map, filter, Option, None, Some, Decides, count_by, sum_by, if◌then◌else◌, refl, sym, ap, ◌∙◌, subst, ⊎_elim, arith, replicate, eqb-true}
use Rattle.std.proofs.lemmas.Bool.{cases_Bool, false≢true, or_cases, and_parts}
use Rattle.std.proofs.lemmas.List.{length-replicate}
use Rattle.std.proofs.lemmas.List.Sums.{sum_by-cons}
use Rattle.std.proofs.lemmas.List.Sorted.{IsPermutation-map}
use Rattle.std.specs.Option.{option_eq}
use Rattle.std.specs.List.{list_any}
use Rattle.std.specs.Cmp.Lexicographic.{pointwise_decides}
use Rattle.algebra_model.specs.Bag.{IsSameBag, IsWithoutRepeats}
use Rattle.algebra_model.specs.Solution.{Solution, same_solution}
use Rattle.algebra_model.specs.Bgp.{Triple, PatternTerm, TriplePattern, variable, label, constant, is_at, mentions, occurs, image, takes_to, is_in, every_map, occurring, terms, bgp, same_triple_by}
use Rattle.algebra_model.proofs.RepeatLaws.{IsWithoutRepeats-without_repeats, IsWithoutRepeats-map, any-map, any-without_repeats}
use Rattle.algebra_model.proofs.BagLaws.{count_by-cons, count_by-yes, count_by-no, count_by-flat_map, permutation_from_counts}
use Rattle.algebra_model.proofs.TestLaws.{and_false, option_decides}
use Rattle.algebra_model.specs.Solve.{solve, AreBelow}
use Rattle.algebra_model.proofs.SolveLaws.{fits, fits_at, count_by_one, count_by-solve}

count_by-map : {X Y : Type 0} (p : Y → Bool) (f : X → Y) (xs : List X) → count_by p (map f xs) ≡ count_by (λ x. p (f x)) xs
count_by-map p f [] = refl
count_by-map p f (x ∷ xs) = count_by-cons p (f x) (map f xs) ∙ ap (λ n. cond (p (f x)) 1 0 + n) (count_by-map p f xs) ∙ sym (count_by-cons (λ x. p (f x)) x xs)

count_none : {X : Type 0} (xs : List X) → count_by (λ _. false) xs ≡ 0
count_none [] = refl
count_none (x ∷ xs) = count_by-no (λ _. false) x xs refl ∙ count_none xs

sum_by_each : {X : Type 0} (f g : X → ℕ) → ((x : X) → f x ≡ g x) → (xs : List X) → sum_by f xs ≡ sum_by g xs
sum_by_each f g e xs = ap (λ (h : _ → ℕ). sum_by h xs) (λ i x. e x i)

and_true : (b : Bool) → (b && true) ≡ b
and_true true = refl
and_true false = refl

sum_of_one : {X : Type 0} (eq : X → X → Bool) (p : X → Bool) → ((x y : X) → p x ≡ true → p y ≡ true → eq x y ≡ true) → (b : Bool) (xs : List X) → IsWithoutRepeats eq xs → sum_by (λ x. cond (p x && b) 1 0) xs ≡ cond (list_any p xs && b) 1 0
sum_of_one eq p one true xs h =
    ap (λ (q : _ → Bool). count_by q xs) (λ i x. and_true (p x) i) ∙ count_by_one eq p one xs h ∙ ap (λ (b : Bool). cond b 1 0) (sym (and_true (list_any p xs)))
sum_of_one eq p one false xs h =
    ap (λ (q : _ → Bool). count_by q xs) (λ i x. and_false (p x) i) ∙ count_none xs ∙ ap (λ (b : Bool). cond b 1 0) (sym (and_false (list_any p xs)))

abbrev pub choices : {T : Type 0} → Bool → List T → List (Option T)
choices u ts = if u then map Some ts else (None ∷ [])

module _ {T : Type 0} (same : T → T → Bool) (decides : (x y : T) → Decides (same x y) (x ≡ y)) where
  decide : (x y : Option T) → Decides (option_eq same x y) (x ≡ y)
  decide = option_decides same decides

  pub solution_decides : (μ ν : Solution T) → Decides (same_solution same μ ν) (μ ≡ ν)
  solution_decides = pointwise_decides decide

  abbrev pub in_maps : (ℕ → Bool) → List T → ℕ → Solution T → Bool
  in_maps U ts zero [] = true
  in_maps U ts zero (z ∷ M) = false
  in_maps U ts (suc n) [] = false
  in_maps U ts (suc n) (z ∷ M) = list_any (option_eq same z) (choices (U 0) ts) && in_maps (λ k. U (suc k)) ts n M

  IsWithoutRepeats-choices : (u : Bool) (ts : List T) → IsWithoutRepeats same ts → IsWithoutRepeats (option_eq same) (choices u ts)
  IsWithoutRepeats-choices true ts h = IsWithoutRepeats-map same (option_eq same) Some (λ x y. refl) ts h
  IsWithoutRepeats-choices false ts h = (refl, tt)

  count_one : (z x : Option T) (M : Solution T) (R : List (Solution T)) → count_by (λ μ. option_eq same z x && same_solution same M μ) R ≡ cond (option_eq same z x) (count_by (same_solution same M) R) 0
  count_one z x M R = by (option_eq same z x)
    where
      by : (b : Bool) → count_by (λ μ. b && same_solution same M μ) R ≡ cond b (count_by (same_solution same M) R) 0
      by true = refl
      by false = count_none R

  pub cond-cond : (a b : Bool) → cond {A = ℕ} a (cond b 1 0) 0 ≡ cond (a && b) 1 0
  cond-cond true b = refl
  cond-cond false b = refl

  sum_zero : {X : Type 0} (f : X → ℕ) → ((x : X) → f x ≡ 0) → (xs : List X) → sum_by f xs ≡ 0
  sum_zero f h [] = refl
  sum_zero f h (x ∷ xs) = let e = sum_by-cons f x xs in let i = sum_zero f h xs in let z = h x in omega arith

  -- each map is tried once
  pub count_by-every_map : (ts : List T) → IsWithoutRepeats same ts → (U : ℕ → Bool) (n : ℕ) (M : Solution T) → count_by (same_solution same M) (every_map U ts n) ≡ cond (in_maps U ts n M) 1 0
  count_by-every_map ts h U zero [] = refl
  count_by-every_map ts h U zero (z ∷ M) = refl
  count_by-every_map ts h U (suc n) [] =
      let R = every_map (λ k. U (suc k)) ts n in
      count_by-flat_map (same_solution same []) (λ x. map (λ μ. x ∷ μ) R) (choices (U 0) ts) ∙ sum_zero _ (λ x. count_by-map (same_solution same []) (λ μ. x ∷ μ) R ∙ count_none R) (choices (U 0) ts)
  count_by-every_map ts h U (suc n) (z ∷ M) =
      let R = every_map (λ k. U (suc k)) ts n in
      let I = in_maps (λ k. U (suc k)) ts n M in
      count_by-flat_map (same_solution same (z ∷ M)) (λ x. map (λ μ. x ∷ μ) R) (choices (U 0) ts)
      ∙ sum_by_each _ (λ x. cond (option_eq same z x && I) 1 0) (λ x. count_by-map (same_solution same (z ∷ M)) (λ μ. x ∷ μ) R ∙ count_one z x M R ∙ ap (λ c. cond (option_eq same z x) c 0) (count_by-every_map ts h (λ k. U (suc k)) n M) ∙ cond-cond (option_eq same z x) I) (choices (U 0) ts)
      ∙ sum_of_one (option_eq same) (option_eq same z) (λ x y p q. (decide x y).1 (sym ((decide z x).0 p) ∙ (decide z y).0 q)) I (choices (U 0) ts) (IsWithoutRepeats-choices (U 0) ts h)

  pub count_by-filter : (p : Solution T → Bool) (M : Solution T) (xs : List (Solution T)) → count_by (same_solution same M) (filter p xs) ≡ cond (p M) (count_by (same_solution same M) xs) 0
  count_by-filter p M [] = sym (elim (p M) as (λ b. cond {A = ℕ} b 0 0 ≡ 0) [ true ↦ refl | false ↦ refl ])
  count_by-filter p M (x ∷ xs) =
      ⊎_elim
      (λ (e : same_solution same M x ≡ true).
      let m : M ≡ x = (solution_decides M x).0 e in
      subst (λ (v : Bool). count_by (same_solution same M) (cond v (x ∷ filter p xs) (filter p xs)) ≡ cond (p M) (count_by (same_solution same M) (x ∷ xs)) 0) (ap p m) (yes e (p M) (count_by-filter p M xs)))
      (λ (e : same_solution same M x ≡ false). no e (p x) (p M) (count_by-filter p M xs))
      (cases_Bool (same_solution same M x))
    where
      yes : same_solution same M x ≡ true → (b : Bool) → count_by (same_solution same M) (filter p xs) ≡ cond b (count_by (same_solution same M) xs) 0 → count_by (same_solution same M) (cond b (x ∷ filter p xs) (filter p xs)) ≡ cond b (count_by (same_solution same M) (x ∷ xs)) 0
      yes e true i = count_by-yes (same_solution same M) x (filter p xs) e ∙ ap (λ n. 1 + n) i ∙ sym (count_by-yes (same_solution same M) x xs e)
      yes e false i = i

      no : same_solution same M x ≡ false → (c b : Bool) → count_by (same_solution same M) (filter p xs) ≡ cond b (count_by (same_solution same M) xs) 0 → count_by (same_solution same M) (cond c (x ∷ filter p xs) (filter p xs)) ≡ cond b (count_by (same_solution same M) (x ∷ xs)) 0
      no e true b i = count_by-no (same_solution same M) x (filter p xs) e ∙ i ∙ ap (λ n. cond b n 0) (sym (count_by-no (same_solution same M) x xs e))
      no e false b i = i ∙ ap (λ n. cond b n 0) (sym (count_by-no (same_solution same M) x xs e))

  get_or-at : (w : ℕ) (M : Solution T) (n : PatternTerm T) (j : ℕ) (x : T) → is_at w n j ≡ true → option_eq same (image w M n) (Some x) ≡ true → get_or M j None ≡ Some x
  get_or-at w M (variable v) j x a i = ap (λ k. get_or M k None) (sym (eqb-true v j a)) ∙ (decide (get_or M v None) (Some x)).0 i
  get_or-at w M (label l) j x a i = ap (λ k. get_or M k None) (sym (eqb-true (w + l) j a)) ∙ (decide (get_or M (w + l) None) (Some x)).0 i
  get_or-at w M (constant c) j x a i = absurd (false≢true a)

  or_right : (a b : Bool) → b ≡ true → (a || b) ≡ true
  or_right true b e = refl
  or_right false b e = e

  or_left : (a b : Bool) → a ≡ true → (a || b) ≡ true
  or_left a b e = ap (λ c. c || b) e

  hit_one : (w : ℕ) (M : Solution T) (t : TriplePattern T) (g : Triple T) (j : ℕ) (rest : List T) → takes_to same w M t g ≡ true → mentions w t j ≡ true → (x : T) × (get_or M j None ≡ Some x) × (list_any (same x) (g.s ∷ g.p ∷ g.o ∷ rest) ≡ true)
  hit_one w M t g j rest k m =
      let a = and_parts _ _ k in
      let b = and_parts _ _ a.0 in
      let own : (x : T) → same x x ≡ true = λ x. (decides x x).1 refl in
      ⊎_elim
      (λ c. ⊎_elim
      (λ d. (g.s, get_or-at w M t.s j g.s d b.0, or_left _ _ (own g.s)))
      (λ d. (g.p, get_or-at w M t.p j g.p d b.1, or_right (same g.p g.s) _ (or_left _ _ (own g.p))))
      (or_cases (is_at w t.s j) (is_at w t.p j) c))
      (λ d. (g.o, get_or-at w M t.o j g.o d a.1, or_right (same g.o g.s) _ (or_right (same g.o g.p) _ (or_left _ _ (own g.o)))))
      (or_cases (is_at w t.s j || is_at w t.p j) (is_at w t.o j) m)

  abbrev IsHit : Solution T → ℕ → List (Triple T) → Type 0
  IsHit M j G = (x : T) × (get_or M j None ≡ Some x) × (list_any (same x) (occurring G) ≡ true)

  hit : (w : ℕ) (M : Solution T) (t : TriplePattern T) (j : ℕ) (G : List (Triple T)) → list_any (takes_to same w M t) G ≡ true → mentions w t j ≡ true → IsHit M j G
  hit w M t j [] k m = absurd (false≢true k)
  hit w M t j (g ∷ G) k m =
      let more = λ (e : list_any (takes_to same w M t) G ≡ true). hit w M t j G e m in
      ⊎_elim
      (λ e. hit_one w M t g j (occurring G) e m)
      (λ e. let r = more e in (r.0, r.1, or_right (same r.0 g.s) _ (or_right (same r.0 g.p) _ (or_right (same r.0 g.o) _ r.2))))
      (or_cases (takes_to same w M t g) (list_any (takes_to same w M t) G) k)

  hit_in : (w : ℕ) (M : Solution T) (G : List (Triple T)) (j : ℕ) (P : List (TriplePattern T)) → is_in same w P G M ≡ true → occurs w P j ≡ true → IsHit M j G
  hit_in w M G j [] k m = absurd (false≢true m)
  hit_in w M G j (t ∷ P) k m =
      let a = and_parts (list_any (takes_to same w M t) G) (is_in same w P G M) k in
      let more = λ (e : occurs w P j ≡ true). hit_in w M G j P a.1 e in
      ⊎_elim (λ e. hit w M t j G a.0 e) more (or_cases (mentions w t j) (occurs w P j) m)

  -- a map from nothing that reaches only used places is one of those that are tried, if it takes used places to the terms
  fits-tried : (ts : List T) (U : ℕ → Bool) (n : ℕ) (M : Solution T) → ((j : ℕ) → U j ≡ true → list_any (option_eq same (get_or M j None)) (map Some ts) ≡ true) → fits same (replicate n None) U M ≡ in_maps U ts n M
  fits-tried ts U zero [] h = refl
  fits-tried ts U zero (z ∷ M) h = refl
  fits-tried ts U (suc n) [] h = refl
  fits-tried ts U (suc n) (z ∷ M) h = λ i. first (U 0) (h 0) i && fits-tried ts (λ k. U (suc k)) n M (λ j. h (suc j)) i
    where
      first : (u : Bool) → (u ≡ true → list_any (option_eq same z) (map Some ts) ≡ true) → fits_at same None u z ≡ list_any (option_eq same z) (choices u ts)
      first true g = sym (g refl)
      first false g = last (option_eq same z None)
        where
          last : (b : Bool) → b ≡ (b || false)
          last true = refl
          last false = refl

  pub and_agree : (a b c : Bool) → (a ≡ true → b ≡ c) → (a && b) ≡ (a && c)
  and_agree true b c h = h refl
  and_agree false b c h = refl

  -- The maps that are built triple pattern by triple pattern are the solutions of the pattern.
  pub solve-bgp : (w l : ℕ) (P : List (TriplePattern T)) (G : List (Triple T)) → IsWithoutRepeats (same_triple_by same) G → AreBelow w (w + l) P → IsSameBag (map (take w) (solve same w P G (replicate (w + l) None))) (bgp same w l P G)
  solve-bgp w l P G once below =
      let U = occurs w P in
      let ts = terms same G in
      IsPermutation-map (take w) (solve same w P G (replicate (w + l) None)) (filter (is_in same w P G) (every_map U ts (w + l)))
      (permutation_from_counts (same_solution same) solution_decides _ _
      (λ M.
      let reached : (j : ℕ) → is_in same w P G M ≡ true → U j ≡ true → list_any (option_eq same (get_or M j None)) (map Some ts) ≡ true = λ j k u.
      let r = hit_in w M G j P k u in
      ap (λ o. list_any (option_eq same o) (map Some ts)) r.1 ∙ any-map (option_eq same (Some r.0)) Some ts ∙ any-without_repeats same decides r.0 (occurring G) r.2 in
      count_by-solve same decides w (w + l) P G once below (replicate (w + l) None) M (length-replicate (w + l) None)
      ∙ ap (λ (b : Bool). cond b 1 0) (and_agree (is_in same w P G M) (fits same (replicate (w + l) None) U M) (in_maps U ts (w + l) M) (λ k. fits-tried ts U (w + l) M (λ j u. reached j k u)))
      ∙ sym (cond-cond (is_in same w P G M) (in_maps U ts (w + l) M))
      ∙ ap (λ c. cond (is_in same w P G M) c 0) (sym (count_by-every_map ts (IsWithoutRepeats-without_repeats same (occurring G)) U (w + l) M))
      ∙ sym (count_by-filter (is_in same w P G) M (every_map U ts (w + l)))))
