-- The sum of the iterations of a search.
use Rattle.std.proofs.Common.{◌≡◌, ℕ, zero, suc, ◌+◌, List, [], ◌∷◌, ◌++◌, get_or, set, slice_get, take, drop, map, flat_map, filter_map, replicate, Option, None, Some, nat_eq, IsPermutation, Contains, refl, sym, ap, ◌∙◌, subst, append-nil, append_assoc}
use Rattle.std.proofs.lemmas.Bool.Decides.{Decides-eqb}
use Rattle.std.proofs.lemmas.List.{map-append, map_more, take-map, drop-map, set-get_or}
use Rattle.std.proofs.lemmas.List.Elements.{filter_map-append}
use Rattle.std.proofs.lemmas.Option.{slice_get_within, get_or_from_slice_get}
use Rattle.std.proofs.lemmas.List.Folds.{flat_map-map}
use Rattle.std.proofs.lemmas.List.Sorted.{IsPermutation-refl, IsPermutation-sym, IsPermutation-trans, IsPermutation-map, IsPermutation-append_left, IsPermutation-append_right}
use Rattle.std.proofs.lemmas.Grind.{flat_map-append}
use Rattle.dict_core.specs.declared.num_quad.NumQuad.{NumQuad}
use Rattle.std.specs.List.{cons_option}
use Rattle.dict_core.proofs.NumQuadLaws.{quad_eq}
use Rattle.algebra_model.specs.Bag.{IsSameBag, IsWithoutRepeats}
use Rattle.algebra_model.specs.Pieces.{joined}
use Rattle.algebra_model.specs.Solution.{Solution, same_solution}
use Rattle.algebra_model.specs.Bgp.{Triple, TriplePattern, image, bgp, occurring, same_triple_by}
use Rattle.algebra_model.specs.Renaming.{Each, EachBound}
use Rattle.algebra_model.specs.Solve.{bind_pattern_term, extend_by, solve, AreBelow}
use Rattle.algebra_model.proofs.BagLaws.{IsPermutation-flat_map}
use Rattle.algebra_model.proofs.BgpLaws.{solution_decides}
use Rattle.algebra_model.proofs.BgpReadingLaws.{bgp-bound}
use Rattle.algebra_model.proofs.RangeLaws.{Each-IsSameBag}
use Rattle.row_pattern.specs.declared.cells.Place.{Place}
use Rattle.row_pattern.specs.declared.cells.Place.TheVariants.{Cell, Number}
use Rattle.row_pattern.specs.declared.steps.Step.{Step}
use Rattle.row_pattern.specs.Numbered.{triple_of, triples_of}
use Rattle.row_pattern.specs.Places.{place_term, put_at}
use Rattle.row_pattern.specs.Steps.{step_pattern, placed_pattern, solutions_from, solutions_over}
use Rattle.row_pattern.proofs.ScanLaws.{each-occurs, triples-once}
use Rattle.row_pattern.proofs.StepLaws.{steps-solve}

-- one step is bound

pub three-bound : (t : Step) (g : Triple ℕ) (m m1 m2 m3 : Solution ℕ) → bind_pattern_term nat_eq 0 m (place_term t.subject) g.s ≡ Some m1 → bind_pattern_term nat_eq 0 m1 (place_term t.predicate) g.p ≡ Some m2
    → bind_pattern_term nat_eq 0 m2 (place_term t.object) g.o ≡ Some m3 → extend_by nat_eq 0 (step_pattern t) m g ≡ Some m3
three-bound t g m m1 m2 m3 a b c = rw a (rw b c)

pub first-apart : (t : Step) (g : Triple ℕ) (m : Solution ℕ) → bind_pattern_term nat_eq 0 m (place_term t.subject) g.s ≡ None → extend_by nat_eq 0 (step_pattern t) m g ≡ None
first-apart t g m a = rw a refl

pub second-apart : (t : Step) (g : Triple ℕ) (m m1 : Solution ℕ) → bind_pattern_term nat_eq 0 m (place_term t.subject) g.s ≡ Some m1 → bind_pattern_term nat_eq 0 m1 (place_term t.predicate) g.p ≡ None
    → extend_by nat_eq 0 (step_pattern t) m g ≡ None
second-apart t g m m1 a b = rw a (rw b refl)

pub third-apart : (t : Step) (g : Triple ℕ) (m m1 m2 : Solution ℕ) → bind_pattern_term nat_eq 0 m (place_term t.subject) g.s ≡ Some m1 → bind_pattern_term nat_eq 0 m1 (place_term t.predicate) g.p ≡ Some m2
    → bind_pattern_term nat_eq 0 m2 (place_term t.object) g.o ≡ None → extend_by nat_eq 0 (step_pattern t) m g ≡ None
third-apart t g m m1 m2 a b c = rw a (rw b c)

-- what a list of triples gives

module _ (w : ℕ) (G : List (Triple ℕ)) (t : Step) (rest : List Step) (m : Solution ℕ) where
  pub over-append : (S T : List (Triple ℕ)) → solutions_over w G t rest m (S ++ T) ≡ solutions_over w G t rest m S ++ solutions_over w G t rest m T
  over-append S T =
      let E = extend_by nat_eq 0 (step_pattern t) m in
      let F = solve nat_eq 0 (map step_pattern rest) G in
      ap (λ l. map (take w) (flat_map F l)) (filter_map-append E S T) ∙ ap (map (take w)) (flat_map-append F (filter_map E S) (filter_map E T)) ∙ map-append (take w) (flat_map F (filter_map E S)) (flat_map F (filter_map E T))

  pub over-each : (quads : List NumQuad) → flat_map (λ q. solutions_over w G t rest m (triple_of q ∷ [])) quads ≡ solutions_over w G t rest m (map triple_of quads)
  over-each [] = refl
  over-each (q ∷ quads) = ap (λ l. solutions_over w G t rest m (triple_of q ∷ []) ++ l) (over-each quads) ∙ sym (over-append (triple_of q ∷ []) (map triple_of quads))

  pub over-joined : (quads : List NumQuad) → joined (map (λ q. solutions_over w G t rest m (triple_of q ∷ [])) quads) ≡ solutions_over w G t rest m (map triple_of quads)
  over-joined quads = flat_map-map (λ part. part) (λ q. solutions_over w G t rest m (triple_of q ∷ [])) quads ∙ over-each quads

  -- a quad that extends the row, and one that does not
  pub over-some : (g : Triple ℕ) (n : Solution ℕ) → extend_by nat_eq 0 (step_pattern t) m g ≡ Some n → solutions_over w G t rest m (g ∷ []) ≡ solutions_from w G rest n
  over-some g n e =
      ap (λ (o : Option (Solution ℕ)). map (take w) (flat_map (solve nat_eq 0 (map step_pattern rest) G) (cons_option o []))) e ∙ ap (map (take w)) (append-nil (solve nat_eq 0 (map step_pattern rest) G n))

  pub over-none : (g : Triple ℕ) → extend_by nat_eq 0 (step_pattern t) m g ≡ None → solutions_over w G t rest m (g ∷ []) ≡ []
  over-none g e = ap (λ (o : Option (Solution ℕ)). map (take w) (flat_map (solve nat_eq 0 (map step_pattern rest) G) (cons_option o []))) e

  -- the triples that a scan gives suffice
  pub over-scan : (S : List (Triple ℕ)) → IsSameBag (filter_map (extend_by nat_eq 0 (step_pattern t) m) S) (filter_map (extend_by nat_eq 0 (step_pattern t) m) G)
      → IsSameBag (solutions_over w G t rest m S) (solutions_from w G (t ∷ rest) m)
  over-scan S h =
      let E = extend_by nat_eq 0 (step_pattern t) m in
      let F = solve nat_eq 0 (map step_pattern rest) G in
      IsPermutation-map (take w) (flat_map F (filter_map E S)) (flat_map F (filter_map E G)) (IsPermutation-flat_map (same_solution nat_eq) (solution_decides nat_eq Decides-eqb) F (filter_map E S) (filter_map E G) h)

-- rows are added to rows, in any order
pub added : {X : Type 0} (first found more A B C : List X) → IsSameBag found (first ++ A) → IsSameBag more (found ++ B) → C ≡ A ++ B → IsSameBag more (first ++ C)
added first found more A B C h k e =
    subst (λ l. IsPermutation more (first ++ l)) (sym e)
    (subst (λ l. IsPermutation more l) (append_assoc first A B) (IsPermutation-trans more (found ++ B) ((first ++ A) ++ B) k (IsPermutation-append_left B found (first ++ A) h)))

pub added-same : {X : Type 0} (first more A B : List X) → IsSameBag more (first ++ A) → IsSameBag A B → IsSameBag more (first ++ B)
added-same first more A B h k = IsPermutation-trans more (first ++ A) (first ++ B) h (IsPermutation-append_right first A B k)

pub added-none : {X : Type 0} (first A : List X) → A ≡ [] → IsSameBag first (first ++ A)
added-none first A e = subst (λ l. IsPermutation first l) (sym (ap (λ l. first ++ l) e ∙ append-nil first)) (IsPermutation-refl first)

pub added-is : {X : Type 0} (first more A : List X) → more ≡ first ++ A → IsSameBag more (first ++ A)
added-is first more A e = subst (λ l. IsPermutation more l) e (IsPermutation-refl more)

-- with one more quad
pub quad-turn : (w : ℕ) (G : List (Triple ℕ)) (t : Step) (rest : List Step) (m n : Solution ℕ) (quads : List NumQuad) (i : ℕ) (q : NumQuad) (first found more : List (Solution ℕ)) → slice_get quads i ≡ Some q → n ≡ m
    → IsSameBag found (first ++ solutions_over w G t rest m (map triple_of (take i quads))) → IsSameBag more (found ++ solutions_over w G t rest n (triple_of q ∷ []))
    → IsSameBag more (first ++ solutions_over w G t rest m (map triple_of (take (i + 1) quads)))
quad-turn w G t rest m n quads i q first found more at e h k =
    added first found more (solutions_over w G t rest m (map triple_of (take i quads))) (solutions_over w G t rest m (triple_of q ∷ [])) (solutions_over w G t rest m (map triple_of (take (i + 1) quads))) h
    (subst (λ (r : Solution ℕ). IsSameBag more (found ++ solutions_over w G t rest r (triple_of q ∷ []))) e k)
    (ap (solutions_over w G t rest m) (map_more triple_of quads i q (slice_get_within quads i q at) ∙ ap (λ (x : NumQuad). map triple_of (take i quads) ++ triple_of x ∷ []) (get_or_from_slice_get quads i q q at))
    ∙ over-append w G t rest m (map triple_of (take i quads)) (triple_of q ∷ []))

-- what a step adds
pub step-added : (w : ℕ) (G : List (Triple ℕ)) (t : Step) (rest steps : List Step) (m : Solution ℕ) (S : List (Triple ℕ)) (first more : List (Solution ℕ)) → steps ≡ t ∷ rest
    → IsSameBag (filter_map (extend_by nat_eq 0 (step_pattern t) m) S) (filter_map (extend_by nat_eq 0 (step_pattern t) m) G)
    → IsSameBag more (first ++ solutions_over w G t rest m S) → IsSameBag more (first ++ solutions_from w G steps m)
step-added w G t rest steps m S first more e same h =
    subst (λ (l : List Step). IsSameBag more (first ++ solutions_from w G l m)) (sym e)
    (added-same first more (solutions_over w G t rest m S) (solutions_from w G (t ∷ rest) m) h (over-scan w G t rest m S same))

-- pieces of the first step's quads

module _ (w : ℕ) (G : List (Triple ℕ)) (t : Step) (rest : List Step) (cells : ℕ) where
  -- what one quad gives
  abbrev pub part : NumQuad → List (Solution ℕ)
  part q = solutions_over w G t rest (replicate cells None) (triple_of q ∷ [])

  pub piece-rows : (quads S : List NumQuad) (from n : ℕ) (m : Solution ℕ) (first more : List (Solution ℕ)) → first ≡ [] → m ≡ replicate cells None → S ≡ take n (drop from quads)
      → IsSameBag more (first ++ solutions_over w G t rest m (map triple_of S)) → IsSameBag more (joined (take n (drop from (map part quads))))
  piece-rows quads S from n m first more a b e h =
      let here : first ++ solutions_over w G t rest m (map triple_of S) ≡ joined (take n (drop from (map part quads))) =
      (λ i. a i ++ solutions_over w G t rest (b i) (map triple_of (e i))) ∙ sym (over-joined w G t rest (replicate cells None) (take n (drop from quads)))
      ∙ ap joined (sym (ap (take n) (drop-map part from quads) ∙ take-map part n (drop from quads))) in
      subst (λ (l : List (Solution ℕ)). IsSameBag more l) here h

  pub all-rows : (quads : List NumQuad) (m : Solution ℕ) (rows : List (Solution ℕ)) → m ≡ replicate cells None
      → IsSameBag (filter_map (extend_by nat_eq 0 (step_pattern t) m) (map triple_of quads)) (filter_map (extend_by nat_eq 0 (step_pattern t) m) G)
      → IsSameBag rows (joined (map part quads)) → IsSameBag rows (solutions_from w G (t ∷ rest) (replicate cells None))
  all-rows quads m rows b same h =
      let E = λ (r : Solution ℕ). IsSameBag (filter_map (extend_by nat_eq 0 (step_pattern t) r) (map triple_of quads)) (filter_map (extend_by nat_eq 0 (step_pattern t) r) G) in
      IsPermutation-trans rows (solutions_over w G t rest (replicate cells None) (map triple_of quads)) (solutions_from w G (t ∷ rest) (replicate cells None))
      (subst (λ (l : List (Solution ℕ)). IsSameBag rows l) (over-joined w G t rest (replicate cells None) quads) h)
      (over-scan w G t rest (replicate cells None) (map triple_of quads) (subst E b same))

-- a place is restored

set-set : {X : Type 0} (m : List X) (k : ℕ) (x y : X) → set (set m k x) k y ≡ set m k y
set-set [] k x y = refl
set-set (z ∷ m) zero x y = refl
set-set (z ∷ m) (suc k) x y = ap (λ l. z ∷ l) (set-set m k x y)

pub put-back : (a : Place) (x : Option ℕ) (m : Solution ℕ) → put_at a (image 0 m (place_term a)) (put_at a x m) ≡ m
put-back (Cell k) x m = set-set m k x (get_or m k None) ∙ set-get_or m k None
put-back (Number n) x m = refl

-- the numbers in a pattern's solutions occur in the graph
rows-known : (w l : ℕ) (P : List (TriplePattern ℕ)) (G : List (Triple ℕ)) (rows : List (Solution ℕ)) → IsWithoutRepeats (same_triple_by nat_eq) G → AreBelow w (w + l) P
    → IsSameBag rows (bgp nat_eq w l P G) → Each (EachBound (λ n. Contains (occurring G) n)) rows
rows-known w l P G rows once below h =
    Each-IsSameBag (EachBound (λ n. Contains (occurring G) n)) (bgp nat_eq w l P G) rows (IsPermutation-sym rows (bgp nat_eq w l P G) h)
    (bgp-bound nat_eq nat_eq (λ n. Contains (occurring G) n) (λ n. n) (λ x y i j. refl) Decides-eqb w l P G once below (each-occurs G))

-- rows that are the solutions over the steps are the solutions of the pattern, with numbers of the graph
module _ (w l cells : ℕ) (P : List (TriplePattern ℕ)) (g : Option ℕ) (quads : List NumQuad) (steps : List Step) (wide : cells ≡ w + l) (once : IsWithoutRepeats quad_eq quads) (below : AreBelow w (w + l) P)
    (same : IsPermutation (map (placed_pattern w) P) (map step_pattern steps)) where
  pub rows-solve : (left : List Step) (rows : List (Solution ℕ)) → steps ≡ left → IsSameBag rows (solutions_from w (triples_of g quads) left (replicate cells None)) → IsSameBag rows (bgp nat_eq w l P (triples_of g quads))
  rows-solve left rows e h =
      IsPermutation-trans rows (solutions_from w (triples_of g quads) steps (replicate (w + l) None)) (bgp nat_eq w l P (triples_of g quads))
      (subst (λ (r : List (Solution ℕ)). IsSameBag rows r) (λ i. solutions_from w (triples_of g quads) (sym e i) (replicate (wide i) None)) h)
      (steps-solve w l P steps (triples_of g quads) (triples-once g quads once) below same)

  pub numbers-known : (rows : List (Solution ℕ)) → IsSameBag rows (bgp nat_eq w l P (triples_of g quads)) → Each (EachBound (λ n. Contains (occurring (triples_of g quads)) n)) rows
  numbers-known rows h = rows-known w l P (triples_of g quads) rows (triples-once g quads once) below h
