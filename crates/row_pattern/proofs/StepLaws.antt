-- The steps of a pattern have its solutions: labels may be numbered as variables, and the triple
-- patterns may be matched in any order.
use Rattle.std.proofs.Common.{◌≡◌, ℕ, ◌+◌, ◌≤◌, ◌&&◌, ◌||◌, List, [], ◌∷◌, take, map, filter, filter_map, flat_map, replicate, Option, None, Some, nat_eq, IsPermutation, refl, sym, ap, ◌∙◌, subst, arith}
use Rattle.std.specs.List.{list_any}
use Rattle.std.specs.Option.{option_eq}
use Rattle.std.proofs.lemmas.Bool.Decides.{Decides-eqb}
use Rattle.algebra_model.specs.Bag.{IsSameBag, IsWithoutRepeats}
use Rattle.algebra_model.specs.Solution.{Solution}
use Rattle.algebra_model.specs.Bgp.{Triple, PatternTerm, TriplePattern, variable, label, constant, image, is_at, occurs, is_in, every_map, terms, bgp, same_triple_by}
use Rattle.algebra_model.specs.Renaming.{Each}
use Rattle.algebra_model.specs.Solve.{bind_pattern_term, then_bind, extend_by, solve, IsBelow, IsTripleBelow, AreBelow}
use Rattle.algebra_model.proofs.BgpLaws.{solve-bgp}
use Rattle.algebra_model.proofs.PatternLaws.{bgp-pattern_order}
use Rattle.algebra_model.proofs.RangeLaws.{Each-IsSameBag}
use Rattle.row_pattern.specs.declared.cells.Place.{Place}
use Rattle.row_pattern.specs.declared.cells.Place.TheVariants.{Cell, Number}
use Rattle.row_pattern.specs.declared.steps.Step.{Step}
use Rattle.row_pattern.specs.Places.{place_term}
use Rattle.row_pattern.specs.Steps.{step_pattern, placed, placed_pattern, solutions_from}

-- labels as variables

image-placed : (w : ℕ) (μ : Solution ℕ) (a : PatternTerm ℕ) → image w μ (placed w a) ≡ image w μ a
image-placed w μ (variable v) = refl
image-placed w μ (label l) = refl
image-placed w μ (constant n) = refl

at-placed : (w k : ℕ) (a : PatternTerm ℕ) → is_at w (placed w a) k ≡ is_at w a k
at-placed w k (variable v) = refl
at-placed w k (label l) = refl
at-placed w k (constant n) = refl

is_in-placed : (w : ℕ) (P : List (TriplePattern ℕ)) (G : List (Triple ℕ)) (μ : Solution ℕ) → is_in nat_eq w (map (placed_pattern w) P) G μ ≡ is_in nat_eq w P G μ
is_in-placed w [] G μ = refl
is_in-placed w (t ∷ P) G μ =
    λ i. list_any (λ g. option_eq nat_eq (image-placed w μ t.s i) (Some g.s) && option_eq nat_eq (image-placed w μ t.p i) (Some g.p) && option_eq nat_eq (image-placed w μ t.o i) (Some g.o)) G && is_in-placed w P G μ i

occurs-placed : (w : ℕ) (P : List (TriplePattern ℕ)) (k : ℕ) → occurs w (map (placed_pattern w) P) k ≡ occurs w P k
occurs-placed w [] k = refl
occurs-placed w (t ∷ P) k = λ i. (at-placed w k t.s i || at-placed w k t.p i || at-placed w k t.o i) || occurs-placed w P k i

bgp-placed : (w l : ℕ) (P : List (TriplePattern ℕ)) (G : List (Triple ℕ)) → bgp nat_eq w l (map (placed_pattern w) P) G ≡ bgp nat_eq w l P G
bgp-placed w l P G =
    λ i. map (take w) (filter (λ μ. is_in-placed w P G μ i) (every_map (λ k. occurs-placed w P k i) (terms nat_eq G) (w + l)))

-- places within the row

below-placed : (w n : ℕ) (a : PatternTerm ℕ) → IsBelow w n a → IsBelow w n (placed w a)
below-placed w n (variable v) h = h
below-placed w n (label l) h = h
below-placed w n (constant c) h = tt

each-below : (w n : ℕ) (P : List (TriplePattern ℕ)) → AreBelow w n P → Each (IsTripleBelow w n) (map (placed_pattern w) P)
each-below w n [] h = tt
each-below w n (t ∷ P) h = ((below-placed w n t.s h.0.0, below-placed w n t.p h.0.1, below-placed w n t.o h.0.2), each-below w n P h.1)

below-each : (w n : ℕ) (P : List (TriplePattern ℕ)) → Each (IsTripleBelow w n) P → AreBelow w n P
below-each w n [] h = tt
below-each w n (t ∷ P) h = (h.0, below-each w n P h.1)

below-more : (w n m : ℕ) (a : PatternTerm ℕ) → n ≤ m → IsBelow w n a → IsBelow w m a
below-more w n m (variable v) e h = omega arith
below-more w n m (label l) e h = omega arith
below-more w n m (constant c) e h = tt

pub are_below-more : (w n m : ℕ) (P : List (TriplePattern ℕ)) → n ≤ m → AreBelow w n P → AreBelow w m P
are_below-more w n m [] e h = tt
are_below-more w n m (t ∷ P) e h = ((below-more w n m t.s e h.0.0, below-more w n m t.p e h.0.1, below-more w n m t.o e h.0.2), are_below-more w n m P e h.1)

-- without labels, the number of variables does not matter

bind-width : (w : ℕ) (m : Solution ℕ) (a : Place) (x : ℕ) → bind_pattern_term nat_eq w m (place_term a) x ≡ bind_pattern_term nat_eq 0 m (place_term a) x
bind-width w m (Cell k) x = refl
bind-width w m (Number n) x = refl

then_bind-width : (w : ℕ) (o : Option (Solution ℕ)) (a : Place) (x : ℕ) → then_bind nat_eq w o (place_term a) x ≡ then_bind nat_eq 0 o (place_term a) x
then_bind-width w None a x = refl
then_bind-width w (Some m) a x = bind-width w m a x

extend-width : (w : ℕ) (t : Step) (m : Solution ℕ) (g : Triple ℕ) → extend_by nat_eq w (step_pattern t) m g ≡ extend_by nat_eq 0 (step_pattern t) m g
extend-width w t m g = λ i. then_bind-width w (then_bind-width w (then_bind-width w (Some m) t.subject g.s i) t.predicate g.p i) t.object g.o i

solve-width : (w : ℕ) (steps : List Step) (G : List (Triple ℕ)) (m : Solution ℕ) → solve nat_eq w (map step_pattern steps) G m ≡ solve nat_eq 0 (map step_pattern steps) G m
solve-width w [] G m = refl
solve-width w (t ∷ steps) G m = λ i. flat_map (λ n. solve-width w steps G n i) (filter_map (λ g. extend-width w t m g i) G)

-- the solutions over the steps are the solutions of the pattern
pub steps-solve : (w l : ℕ) (P : List (TriplePattern ℕ)) (steps : List Step) (G : List (Triple ℕ)) → IsWithoutRepeats (same_triple_by nat_eq) G → AreBelow w (w + l) P
    → IsPermutation (map (placed_pattern w) P) (map step_pattern steps) → IsSameBag (solutions_from w G steps (replicate (w + l) None)) (bgp nat_eq w l P G)
steps-solve w l P steps G once below same =
    let Q = map step_pattern steps in
    let inside : AreBelow w (w + l) Q = below-each w (w + l) Q (Each-IsSameBag (IsTripleBelow w (w + l)) (map (placed_pattern w) P) Q same (each-below w (w + l) P below)) in
    let here : IsSameBag (map (take w) (solve nat_eq w Q G (replicate (w + l) None))) (bgp nat_eq w l Q G) = solve-bgp nat_eq Decides-eqb w l Q G once inside in
    let there : bgp nat_eq w l Q G ≡ bgp nat_eq w l P G = sym (bgp-pattern_order nat_eq w l (map (placed_pattern w) P) Q same G) ∙ bgp-placed w l P G in
    subst (λ (rows : List (Solution ℕ)). IsSameBag rows (bgp nat_eq w l P G)) (ap (map (take w)) (solve-width w steps G (replicate (w + l) None)))
    (subst (λ (rows : List (Solution ℕ)). IsSameBag (map (take w) (solve nat_eq w Q G (replicate (w + l) None))) rows) there here)
