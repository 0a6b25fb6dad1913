-- Basic graph patterns over a part of a graph: the triples that some triple pattern can match
-- suffice for the solutions that fit.
use Rattle.std.proofs.Common.{◌≡◌, ℕ, zero, suc, ◌+◌, Bool, true, false, cond, not, ◌&&◌, ◌||◌, ◌==◌, List, [], ◌∷◌, get_or, take, map, filter, None, Some, Decides, Contains, count_by, refl, sym, ap, ◌∙◌, ⊎_elim}
use Rattle.std.specs.Cmp.{both_ways}
use Rattle.std.specs.List.{list_any, list_all}
use Rattle.std.specs.Option.{option_eq}
use Rattle.std.proofs.lemmas.Bool.{false≢true, eqb-true, and_parts, and_from, or_cases, or_left, or_right}
use Rattle.std.proofs.lemmas.Bool.Decides.{Decides-ltb}
use Rattle.std.proofs.lemmas.List.{get_or-take}
use Rattle.std.proofs.lemmas.List.Folds.{Any-from_list_any, list_any_at}
use Rattle.std.proofs.lemmas.List.Sorted.{IsPermutation-map, IsPermutation-trans}
use Rattle.rdf_core.specs.declared.term.Term.{Term}
use Rattle.rdf_core.proofs.TermLaws.{term_eq, term_decides}
use Rattle.algebra_model.specs.Algebra.{is_below, is_triple_below}
use Rattle.algebra_model.specs.Bag.{IsSameBag}
use Rattle.algebra_model.specs.Bgp.{PatternTerm, Triple, TriplePattern, variable, label, constant, bgp, every_map, image, is_at, is_in, mentions, occurring, occurs, takes_to, terms}
use Rattle.algebra_model.specs.Solution.{Solution, same_solution}
use Rattle.algebra_model.proofs.BagLaws.{permutation_from_counts, same_bag}
use Rattle.algebra_model.proofs.BgpLaws.{choices, count_by-every_map, count_by-filter, in_maps, solution_decides}
use Rattle.algebra_model.proofs.RepeatLaws.{IsWithoutRepeats-without_repeats, any-map, any-without_repeats}
use Rattle.algebra_model.proofs.TestLaws.{option_decides}
use Rattle.needed_quads.specs.Needed.{may_be}
use Rattle.needed_quads.specs.Restriction.{Restriction, allows, fits, is_unbound_or_among}

-- ---- lists

-- a list with an element that passes a test passes it
passes : {X : Type 0} (p : X → Bool) (xs : List X) (x : X) → Contains xs x → p x ≡ true → list_any p xs ≡ true
passes p xs x c e = list_any_at p xs c.0 x c.1 (ap p c.2 ∙ e)

-- a filter of a map is a map of a filter
filter-map : {X Y : Type 0} (p : Y → Bool) (f : X → Y) (xs : List X) → filter p (map f xs) ≡ map f (filter (λ x. p (f x)) xs)
filter-map p f [] = refl
filter-map {X} {Y} p f (x ∷ xs) = by (p (f x)) (filter-map p f xs)
  where
    by : (b : Bool) → filter p (map f xs) ≡ map f (filter (λ x. p (f x)) xs)
        → cond b (f x ∷ filter p (map f xs)) (filter p (map f xs)) ≡ map f (cond b (x ∷ filter (λ x. p (f x)) xs) (filter (λ x. p (f x)) xs))
    by true i = ap (λ ys. f x ∷ ys) i
    by false i = i

-- some term of a graph passes a test if some triple has such a term
any-of_occurring : {T : Type 0} (p : T → Bool) (G : List (Triple T)) → list_any p (occurring G) ≡ list_any (λ g. p g.s || (p g.p || p g.o)) G
any-of_occurring p [] = refl
any-of_occurring p (g ∷ G) = ap (λ b. p g.s || (p g.p || (p g.o || b))) (any-of_occurring p G) ∙ regroup (p g.s) (p g.p) (p g.o) (list_any (λ g. p g.s || (p g.p || p g.o)) G)
  where
    regroup : (a b c d : Bool) → (a || (b || (c || d))) ≡ ((a || (b || c)) || d)
    regroup true b c d = refl
    regroup false true c d = refl
    regroup false false c d = refl

-- `Some` is injective
some_is : {T : Type 0} (x y : T) → Some x ≡ Some y → x ≡ y
some_is x y e = cc

-- ---- maps into a graph

module _ {T : Type 0} (same : T → T → Bool) (decides : (x y : T) → Decides (same x y) (x ≡ y)) where
  -- where a map takes the positions of a triple pattern
  taken : (w : ℕ) (M : Solution T) (t : TriplePattern T) (g : Triple T) → takes_to same w M t g ≡ true
      → (image w M t.s ≡ Some g.s) × (image w M t.p ≡ Some g.p) × (image w M t.o ≡ Some g.o)
  taken w M t g e =
      let a = and_parts _ _ e in
      let b = and_parts _ _ a.0 in
      let is = option_decides same decides in
      ((is (image w M t.s) (Some g.s)).0 b.0, (is (image w M t.p) (Some g.p)).0 b.1, (is (image w M t.o) (Some g.o)).0 a.1)

  -- a map has the term of a position at the place of that position
  at_place : (w : ℕ) (M : Solution T) (n : PatternTerm T) (j : ℕ) (x : T) → is_at w n j ≡ true → image w M n ≡ Some x → get_or M j None ≡ Some x
  at_place w M (variable v) j x a e = ap (λ k. get_or M k None) (sym (eqb-true v j a)) ∙ e
  at_place w M (label l) j x a e = ap (λ k. get_or M k None) (sym (eqb-true (w + l) j a)) ∙ e
  at_place w M (constant c) j x a e = absurd (false≢true a)

  -- a map takes each place of a triple pattern to a term of the triple
  placed : (w : ℕ) (M : Solution T) (t : TriplePattern T) (g : Triple T) (j : ℕ) → takes_to same w M t g ≡ true → mentions w t j ≡ true
      → (x : T) × (get_or M j None ≡ Some x) × ((same x g.s || (same x g.p || same x g.o)) ≡ true)
  placed w M t g j e m =
      let a = taken w M t g e in
      let own : (x : T) → same x x ≡ true = λ x. (decides x x).1 refl in
      ⊎_elim
      (λ c. ⊎_elim
      (λ d. (g.s, at_place w M t.s j g.s d a.0, or_left (same g.s g.s) _ (own g.s)))
      (λ d. (g.p, at_place w M t.p j g.p d a.1, or_right (same g.p g.s) _ (or_left (same g.p g.p) _ (own g.p))))
      (or_cases (is_at w t.s j) (is_at w t.p j) c))
      (λ d. (g.o, at_place w M t.o j g.o d a.2, or_right (same g.o g.s) _ (or_right (same g.o g.p) _ (own g.o))))
      (or_cases (is_at w t.s j || is_at w t.p j) (is_at w t.o j) m)

  -- the same of a triple pattern that a map takes to some triple of a graph
  placed_in : (w : ℕ) (M : Solution T) (t : TriplePattern T) (G : List (Triple T)) (j : ℕ) → list_any (takes_to same w M t) G ≡ true → mentions w t j ≡ true
      → list_any (option_eq same (get_or M j None)) (map Some (terms same G)) ≡ true
  placed_in w M t G j k m =
      let r = Any-from_list_any (takes_to same w M t) G k in
      let h = placed w M t r.1 j r.4 m in
      let found = any-of_occurring (same h.0) G ∙ passes (λ (g : Triple T). same h.0 g.s || (same h.0 g.p || same h.0 g.o)) G r.1 (r.0, r.2, r.3) h.2 in
      ap (λ o. list_any (option_eq same o) (map Some (terms same G))) h.1 ∙ any-map (option_eq same (Some h.0)) Some (terms same G) ∙ any-without_repeats same decides h.0 (occurring G) found

  -- a map that takes a pattern into a graph takes each place of the pattern to a term of the graph
  reached : (w : ℕ) (M : Solution T) (G : List (Triple T)) (j : ℕ) (P : List (TriplePattern T)) → is_in same w P G M ≡ true → occurs w P j ≡ true
      → list_any (option_eq same (get_or M j None)) (map Some (terms same G)) ≡ true
  reached w M G j [] k m = absurd (false≢true m)
  reached w M G j (t ∷ P) k m =
      let a = and_parts (list_any (takes_to same w M t) G) (is_in same w P G M) k in
      let more = λ (e : occurs w P j ≡ true). reached w M G j P a.1 e in
      ⊎_elim (λ e. placed_in w M t G j a.0 e) more (or_cases (mentions w t j) (occurs w P j) m)

  -- a map that is tried over some terms is tried over others, if these include the term of each
  -- used place
  in_maps-from : (ts us : List T) (U : ℕ → Bool) (n : ℕ) (M : Solution T) → ((j : ℕ) → U j ≡ true → list_any (option_eq same (get_or M j None)) (map Some us) ≡ true)
      → in_maps same decides U ts n M ≡ true → in_maps same decides U us n M ≡ true
  in_maps-from ts us U zero [] h e = e
  in_maps-from ts us U zero (z ∷ M) h e = e
  in_maps-from ts us U (suc n) [] h e = e
  in_maps-from ts us U (suc n) (z ∷ M) h e =
      let a = and_parts (list_any (option_eq same z) (choices (U 0) ts)) (in_maps same decides (λ k. U (suc k)) ts n M) e in
      and_from (list_any (option_eq same z) (choices (U 0) us)) (in_maps same decides (λ k. U (suc k)) us n M) (first (U 0) (h 0) a.0) (in_maps-from ts us (λ k. U (suc k)) n M (λ j. h (suc j)) a.1)
    where
      first : (u : Bool) → (u ≡ true → list_any (option_eq same z) (map Some us) ≡ true) → list_any (option_eq same z) (choices u ts) ≡ true → list_any (option_eq same z) (choices u us) ≡ true
      first true g k = g refl
      first false g k = k

  -- the map passes the test, takes the pattern into the graph, and is tried
  abbrev is_kept : (Solution T → Bool) → ℕ → ℕ → List (TriplePattern T) → List (Triple T) → Solution T → Bool
  is_kept keeps w n P G M = keeps M && (is_in same w P G M && in_maps same decides (occurs w P) (terms same G) n M)

  -- a map that is kept over G is kept over H, if it takes the pattern into H
  is_kept-from : (keeps : Solution T → Bool) (w n : ℕ) (P : List (TriplePattern T)) (G H : List (Triple T)) (M : Solution T)
      → (keeps M ≡ true → is_in same w P G M ≡ true → is_in same w P H M ≡ true) → is_kept keeps w n P G M ≡ true → is_kept keeps w n P H M ≡ true
  is_kept-from keeps w n P G H M carried e =
      let U = occurs w P in
      let a = and_parts (keeps M) (is_in same w P G M && in_maps same decides U (terms same G) n M) e in
      let b = and_parts (is_in same w P G M) (in_maps same decides U (terms same G) n M) a.1 in
      let i = carried a.0 b.0 in
      let t = in_maps-from (terms same G) (terms same H) U n M (λ j u. reached w M H j P i u) b.1 in
      and_from (keeps M) (is_in same w P H M && in_maps same decides U (terms same H) n M) a.0 (and_from (is_in same w P H M) (in_maps same decides U (terms same H) n M) i t)

  -- each map is kept once
  count_by-kept : (keeps : Solution T → Bool) (w n : ℕ) (P : List (TriplePattern T)) (G : List (Triple T)) (M : Solution T)
      → count_by (same_solution same M) (filter keeps (filter (is_in same w P G) (every_map (occurs w P) (terms same G) n))) ≡ cond (is_kept keeps w n P G M) 1 0
  count_by-kept keeps w n P G M =
      let E = every_map (occurs w P) (terms same G) n in
      count_by-filter same decides keeps M (filter (is_in same w P G) E)
      ∙ ap (λ c. cond (keeps M) c 0) (count_by-filter same decides (is_in same w P G) M E)
      ∙ ap (λ c. cond (keeps M) (cond (is_in same w P G M) c 0) 0) (count_by-every_map same decides (terms same G) (IsWithoutRepeats-without_repeats same (occurring G)) (occurs w P) n M)
      ∙ all_three (keeps M) (is_in same w P G M) (in_maps same decides (occurs w P) (terms same G) n M)
    where
      all_three : (a b c : Bool) → cond {A = ℕ} a (cond b (cond c 1 0) 0) 0 ≡ cond (a && (b && c)) 1 0
      all_three true true c = refl
      all_three true false c = refl
      all_three false b c = refl

  -- two graphs have the same solutions that pass a test, if their maps take the
  -- pattern into both graphs or into neither
  bgp-kept : (keeps : Solution T → Bool) (w l : ℕ) (P : List (TriplePattern T)) (G H : List (Triple T))
      → ((M : Solution T) → keeps (take w M) ≡ true → is_in same w P G M ≡ true → is_in same w P H M ≡ true)
      → ((M : Solution T) → keeps (take w M) ≡ true → is_in same w P H M ≡ true → is_in same w P G M ≡ true)
      → IsSameBag (filter keeps (bgp same w l P G)) (filter keeps (bgp same w l P H))
  bgp-kept keeps w l P G H there back =
      let passing = λ (M : Solution T). keeps (take w M) in
      let inside = λ (K : List (Triple T)). filter (is_in same w P K) (every_map (occurs w P) (terms same K) (w + l)) in
      let shown = λ (K : List (Triple T)). map (take w) (filter passing (inside K)) in
      let kept = λ (K : List (Triple T)). filter keeps (bgp same w l P K) in
      let counts : (M : Solution T) → count_by (same_solution same M) (filter passing (inside G)) ≡ count_by (same_solution same M) (filter passing (inside H)) = λ M.
      count_by-kept passing w (w + l) P G M
      ∙ ap (λ (b : Bool). cond b 1 0) (both_ways (is_kept passing w (w + l) P G M) (is_kept passing w (w + l) P H M) (is_kept-from passing w (w + l) P G H M (there M)) (is_kept-from passing w (w + l) P H G M (back M)))
      ∙ sym (count_by-kept passing w (w + l) P H M) in
      let one = same_bag (kept G) (shown G) (filter-map keeps (take w) (inside G)) in
      let two = IsPermutation-map (take w) (filter passing (inside G)) (filter passing (inside H)) (permutation_from_counts (same_solution same) (solution_decides same decides) (filter passing (inside G)) (filter passing (inside H)) counts) in
      let three = same_bag (shown H) (kept H) (sym (filter-map keeps (take w) (inside H))) in
      IsPermutation-trans (kept G) (shown G) (kept H) one (IsPermutation-trans (shown G) (shown H) (kept H) two three)

-- ---- solutions that fit

-- in a solution that fits, a variable has a term that it may have
pub allows-from_fits : (R : List Restriction) (v : ℕ) (t : Term) (μ : Solution Term) → fits R μ ≡ true → get_or μ v None ≡ Some t → allows R v t ≡ true
allows-from_fits [] v t μ e k = refl
allows-from_fits (r ∷ R) v t μ e k =
    let a = and_parts (is_unbound_or_among (get_or μ r.variable None) r.terms) (fits R μ) e in
    and_from (not (r.variable == v) || list_any (term_eq t) r.terms) (allows R v t) (by (r.variable == v) refl a.0) (allows-from_fits R v t μ a.1 k)
  where
    by : (b : Bool) → (r.variable == v) ≡ b → is_unbound_or_among (get_or μ r.variable None) r.terms ≡ true → (not b || list_any (term_eq t) r.terms) ≡ true
    by true q i = sym (ap (λ o. is_unbound_or_among o r.terms) (ap (λ j. get_or μ j None) (eqb-true r.variable v q) ∙ k)) ∙ i
    by false q i = refl

-- a position can have the term to which a map that fits takes it
may_be-from_fits : (w l : ℕ) (R : List Restriction) (M : Solution Term) (n : PatternTerm Term) (x : Term) → is_below w l n ≡ true → fits R (take w M) ≡ true → image w M n ≡ Some x → may_be R n x ≡ true
may_be-from_fits w l R M (variable v) x b f e = allows-from_fits R v x (take w M) f (get_or-take w M v None ((Decides-ltb v w).0 b) ∙ e)
may_be-from_fits w l R M (label k) x b f e = refl
may_be-from_fits w l R M (constant c) x b f e = (term_decides c x).1 (some_is c x e)

-- ---- triples

-- the triple pattern can match the triple
abbrev pub triple_may_match : List Restriction → Triple Term → TriplePattern Term → Bool
triple_may_match R g t = may_be R t.s g.s && (may_be R t.p g.p && may_be R t.o g.o)

-- a triple pattern can match the triple to which a map that fits takes it
matched : (w l : ℕ) (R : List Restriction) (M : Solution Term) (t : TriplePattern Term) (g : Triple Term) → is_triple_below w l t ≡ true → fits R (take w M) ≡ true → takes_to term_eq w M t g ≡ true
    → triple_may_match R g t ≡ true
matched w l R M t g b f e =
    let k = taken term_eq term_decides w M t g e in
    let c = and_parts (is_below w l t.s && is_below w l t.p) (is_below w l t.o) b in
    let d = and_parts (is_below w l t.s) (is_below w l t.p) c.0 in
    and_from (may_be R t.s g.s) (may_be R t.p g.p && may_be R t.o g.o) (may_be-from_fits w l R M t.s g.s d.0 f k.0)
    (and_from (may_be R t.p g.p) (may_be R t.o g.o) (may_be-from_fits w l R M t.p g.p d.1 f k.1) (may_be-from_fits w l R M t.o g.o c.1 f k.2))

-- A map that fits and takes a pattern into G takes it into H, if H has the triples of G that some
-- triple pattern can match.
is_in-needed : (w l : ℕ) (R : List Restriction) (M : Solution Term) (P : List (TriplePattern Term)) (G H : List (Triple Term)) → list_all (is_triple_below w l) P ≡ true → fits R (take w M) ≡ true
    → ((g : Triple Term) → Contains G g → list_any (triple_may_match R g) P ≡ true → Contains H g)
    → is_in term_eq w P G M ≡ true → is_in term_eq w P H M ≡ true
is_in-needed w l R M [] G H below f needed e = refl
is_in-needed w l R M (t ∷ P) G H below f needed e =
    let b = and_parts (is_triple_below w l t) (list_all (is_triple_below w l) P) below in
    let a = and_parts (list_any (takes_to term_eq w M t) G) (is_in term_eq w P G M) e in
    let r = Any-from_list_any (takes_to term_eq w M t) G a.0 in
    let m = or_left (triple_may_match R r.1 t) (list_any (triple_may_match R r.1) P) (matched w l R M t r.1 b.0 f r.4) in
    let c = needed r.1 (r.0, r.2, r.3) m in
    and_from (list_any (takes_to term_eq w M t) H) (is_in term_eq w P H M) (passes (takes_to term_eq w M t) H r.1 c r.4)
    (is_in-needed w l R M P G H b.1 f (λ g k q. needed g k (or_right (triple_may_match R g t) (list_any (triple_may_match R g) P) q)) a.1)

-- The solutions that fit are the same over a part of a graph, if the part has each triple that
-- some triple pattern can match.
pub pattern-needed : (w l : ℕ) (R : List Restriction) (P : List (TriplePattern Term)) (G H : List (Triple Term)) → list_all (is_triple_below w l) P ≡ true
    → ((g : Triple Term) → Contains H g → Contains G g)
    → ((g : Triple Term) → Contains G g → list_any (triple_may_match R g) P ≡ true → Contains H g)
    → IsSameBag (filter (fits R) (bgp term_eq w l P G)) (filter (fits R) (bgp term_eq w l P H))
pattern-needed w l R P G H below within needed =
    bgp-kept term_eq term_decides (fits R) w l P G H
    (λ M f e. is_in-needed w l R M P G H below f needed e)
    (λ M f e. is_in-needed w l R M P H G below f (λ g c _. within g c) e)
