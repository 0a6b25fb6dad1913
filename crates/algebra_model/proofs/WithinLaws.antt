-- Patterns whose variables are below the count of names, and patterns with a term that the graph
-- does not have.
use Rattle.std.proofs.Common.{◌≡◌, ℕ, ◌+◌, ◌<◌, nat_lt, Bool, true, false, ◌&&◌, ◌||◌, not, List, [], ◌∷◌, map, filter, take, Option, None, Some, Decides, flat_map, refl, sym, ap, ◌∙◌, ⊎_elim, arith}
use Rattle.std.specs.List.{list_any, list_all}
use Rattle.std.specs.Option.{option_eq}
use Rattle.std.proofs.lemmas.Bool.{false≢true, and_parts, or_cases}
use Rattle.std.proofs.lemmas.Bool.Decides.{Decides-ltb}
use Rattle.rdf_core.specs.declared.term.Term.{Term}
use Rattle.algebra_model.specs.Solution.{Solution}
use Rattle.algebra_model.specs.Bgp.{Triple, PatternTerm, TriplePattern, variable, label, constant, image, is_in, takes_to, every_map, occurs, occurring, terms, bgp}
use Rattle.algebra_model.specs.Algebra.{is_below, is_triple_below}
use Rattle.algebra_model.specs.Renaming.{read_pattern_term, read_pattern}
use Rattle.algebra_model.specs.Solve.{IsBelow, AreBelow}

below : (w l : ℕ) (n : PatternTerm Term) → is_below w l n ≡ true → IsBelow w (w + l) n
below w l (variable v) e = let h = (Decides-ltb v w).0 e in omega arith
below w l (label k) e = let h = (Decides-ltb k l).0 e in omega arith
below w l (constant c) e = tt

pub are_below : (w l : ℕ) (P : List (TriplePattern Term)) → list_all (is_triple_below w l) P ≡ true → AreBelow w (w + l) P
are_below w l [] e = tt
are_below w l (t ∷ P) e =
    let a = and_parts (is_triple_below w l t) (list_all (is_triple_below w l) P) e in
    let b = and_parts (is_below w l t.s && is_below w l t.p) (is_below w l t.o) a.0 in
    let d = and_parts (is_below w l t.s) (is_below w l t.p) b.0 in
    ((below w l t.s d.0, below w l t.p d.1, below w l t.o b.1), are_below w l P a.1)

-- the places are the same for all constants
module _ {A B : Type 0} (f : A → B) (w n : ℕ) where
  unread : (t : PatternTerm A) → IsBelow w n (read_pattern_term f t) → IsBelow w n t
  unread (variable v) h = h
  unread (label l) h = h
  unread (constant c) h = tt

  pub are_below-unread : (P : List (TriplePattern A)) → AreBelow w n (map (read_pattern f) P) → AreBelow w n P
  are_below-unread [] h = tt
  are_below-unread (t ∷ P) h = ((unread t.s h.0.0, unread t.p h.0.1, unread t.o h.0.2), are_below-unread P h.1)

module _ {T : Type 0} (same : T → T → Bool) where
  -- this position has the term
  abbrev pub is_the_term : T → PatternTerm T → Bool
  is_the_term c (variable v) = false
  is_the_term c (label l) = false
  is_the_term c (constant d) = same d c

  abbrev pub has_term : T → TriplePattern T → Bool
  has_term c t = is_the_term c t.s || is_the_term c t.p || is_the_term c t.o

  -- no map takes a triple pattern to a triple of G
  abbrev pub IsNowhere : ℕ → List (Triple T) → TriplePattern T → Type 0
  IsNowhere w G t = (μ : Solution T) → list_any (takes_to same w μ t) G ≡ false

  pub is_in-nowhere : (w : ℕ) (P : List (TriplePattern T)) (G : List (Triple T)) (p : TriplePattern T → Bool) → ((t : TriplePattern T) → p t ≡ true → IsNowhere w G t)
      → list_any p P ≡ true → (μ : Solution T) → is_in same w P G μ ≡ false
  is_in-nowhere w [] G p h e μ = absurd (false≢true e)
  is_in-nowhere w (t ∷ P) G p h e μ =
      let more = λ (x : list_any p P ≡ true). is_in-nowhere w P G p h x μ in
      ⊎_elim
      (λ (x : p t ≡ true). ap (λ b. b && is_in same w P G μ) (h t x μ))
      (λ (x : list_any p P ≡ true). last (list_any (takes_to same w μ t) G) (is_in same w P G μ) (more x))
      (or_cases (p t) (list_any p P) e)
    where
      last : (a b : Bool) → b ≡ false → (a && b) ≡ false
      last true b e = e
      last false b e = refl

  filter-none : {X : Type 0} (p : X → Bool) → ((x : X) → p x ≡ false) → (xs : List X) → filter p xs ≡ []
  filter-none p h [] = refl
  filter-none p h (x ∷ xs) = ap (λ b. Rattle.std.proofs.Common.cond b (x ∷ filter p xs) (filter p xs)) (h x) ∙ filter-none p h xs

  -- a pattern with a triple that no map takes into the graph has no solution
  pub bgp-nowhere : (w l : ℕ) (P : List (TriplePattern T)) (G : List (Triple T)) (p : TriplePattern T → Bool) → ((t : TriplePattern T) → p t ≡ true → IsNowhere w G t)
      → list_any p P ≡ true → bgp same w l P G ≡ []
  bgp-nowhere w l P G p h e = ap (map (take w)) (filter-none (is_in same w P G) (is_in-nowhere w P G p h e) (every_map (occurs w P) (terms same G) (w + l)))

  module _ (decides : (x y : T) → Decides (same x y) (x ≡ y)) where
    -- the term is not the one to which the map takes this position
    apart : (w : ℕ) (c : T) (n : PatternTerm T) (x : T) (μ : Solution T) → is_the_term c n ≡ true → same c x ≡ false → option_eq same (image w μ n) (Some x) ≡ false
    apart w c (variable v) x μ a e = absurd (false≢true a)
    apart w c (label l) x μ a e = absurd (false≢true a)
    apart w c (constant d) x μ a e = ap (λ z. same z x) ((decides d c).0 a) ∙ e

    -- a triple pattern with a term that does not occur in the graph is nowhere
    pub absent-nowhere : (w : ℕ) (c : T) (G : List (Triple T)) → list_any (same c) (occurring G) ≡ false → (t : TriplePattern T) → has_term c t ≡ true → IsNowhere w G t
    absent-nowhere w c [] e t h μ = refl
    absent-nowhere w c (g ∷ G) e t h μ =
        let s = parts (same c g.s) (list_any (same c) (g.p ∷ g.o ∷ occurring G)) e in
        let p = parts (same c g.p) (list_any (same c) (g.o ∷ occurring G)) s.1 in
        let o = parts (same c g.o) (list_any (same c) (occurring G)) p.1 in
        let is = option_eq same (image w μ t.s) (Some g.s) in
        let ip = option_eq same (image w μ t.p) (Some g.p) in
        let io = option_eq same (image w μ t.o) (Some g.o) in
        let here : takes_to same w μ t g ≡ false = ⊎_elim
        (λ a. ⊎_elim
        (λ b. ap (λ z. (z && ip) && io) (apart w c t.s g.s μ b s.0))
        (λ b. ap (λ z. (is && z) && io) (apart w c t.p g.p μ b p.0) ∙ ap (λ z. z && io) (never is))
        (or_cases (is_the_term c t.s) (is_the_term c t.p) a))
        (λ a. ap (λ z. (is && ip) && z) (apart w c t.o g.o μ a o.0) ∙ never (is && ip))
        (or_cases (is_the_term c t.s || is_the_term c t.p) (is_the_term c t.o) h) in
        ap (λ z. z || list_any (takes_to same w μ t) G) here ∙ absent-nowhere w c G o.1 t h μ
      where
        never : (a : Bool) → (a && false) ≡ false
        never true = refl
        never false = refl

        parts : (a b : Bool) → (a || b) ≡ false → (a ≡ false) × (b ≡ false)
        parts true b e = absurd (false≢true (sym e))
        parts false b e = (refl, e)

    -- a pattern that names a term which the graph does not have has no solution
    pub bgp-absent : (w l : ℕ) (c : T) (P : List (TriplePattern T)) (G : List (Triple T)) → list_any (same c) (occurring G) ≡ false → list_any (has_term c) P ≡ true → bgp same w l P G ≡ []
    bgp-absent w l c P G e h = bgp-nowhere w l P G (has_term c) (absent-nowhere w c G e) h
