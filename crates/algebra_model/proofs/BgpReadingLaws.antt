-- The solutions of a pattern of numbers, read as terms, are the solutions of the pattern of terms.
use Rattle.std.proofs.Common.{◌≡◌, ℕ, zero, suc, ◌+◌, Bool, ◌&&◌, ◌||◌, List, [], ◌∷◌, take, map, None, Some, option_map, Decides, IsPermutation, replicate, refl, sym, ap, ◌∙◌, subst}
use Rattle.std.specs.List.{list_any}
use Rattle.std.proofs.lemmas.List.{take-map}
use Rattle.std.proofs.lemmas.List.Sorted.{IsPermutation-map, IsPermutation-sym, IsPermutation-trans}
use Rattle.algebra_model.specs.Bag.{IsSameBag, IsWithoutRepeats}
use Rattle.algebra_model.specs.Solution.{Solution}
use Rattle.algebra_model.specs.Bgp.{Triple, PatternTerm, TriplePattern, variable, label, constant, bgp, same_triple_by}
use Rattle.algebra_model.specs.Solve.{solve, IsBelow, AreBelow}
use Rattle.algebra_model.specs.Renaming.{Each, EachBound, EachOfTriple, EachOfPattern, read_row, read_pattern_term, read_triple}
use Rattle.algebra_model.proofs.BgpLaws.{solve-bgp}
use Rattle.algebra_model.proofs.ReadingLaws.{solve-read, solve-bound}
use Rattle.algebra_model.proofs.RangeLaws.{Each-IsSameBag, Each-map, unbound-bound}

module _ {A B : Type 0} (sa : A → A → Bool) (sb : B → B → Bool) (In : A → Type 0) (f : A → B) (one : (x y : A) → In x → In y → sb (f x) (f y) ≡ sa x y) where
  same_triple-read : (g h : Triple A) → EachOfTriple In g → EachOfTriple In h → same_triple_by sb (read_triple f g) (read_triple f h) ≡ same_triple_by sa g h
  same_triple-read g h i j = λ k. one g.s h.s i.0 j.0 k && one g.p h.p i.1 j.1 k && one g.o h.o i.2 j.2 k

  any-read : (g : Triple A) → EachOfTriple In g → (G : List (Triple A)) → Each (EachOfTriple In) G → list_any (same_triple_by sb (read_triple f g)) (map (read_triple f) G) ≡ list_any (same_triple_by sa g) G
  any-read g i [] j = refl
  any-read g i (h ∷ G) j = λ k. same_triple-read g h i j.0 k || any-read g i G j.1 k

  IsWithoutRepeats-read : (G : List (Triple A)) → Each (EachOfTriple In) G → IsWithoutRepeats (same_triple_by sa) G → IsWithoutRepeats (same_triple_by sb) (map (read_triple f) G)
  IsWithoutRepeats-read [] i h = tt
  IsWithoutRepeats-read (g ∷ G) i h = (any-read g i.0 G i.1 ∙ h.0, IsWithoutRepeats-read G i.1 h.1)

  node-below : (w n : ℕ) (a : PatternTerm A) → IsBelow w n a → IsBelow w n (read_pattern_term f a)
  node-below w n (variable v) h = h
  node-below w n (label l) h = h
  node-below w n (constant c) h = tt

  AreBelow-read : (w n : ℕ) (P : List (TriplePattern A)) → AreBelow w n P → AreBelow w n (map (read_triple (read_pattern_term f)) P)
  AreBelow-read w n [] h = tt
  AreBelow-read w n (t ∷ P) h = ((node-below w n t.s h.0.0, node-below w n t.p h.0.1, node-below w n t.o h.0.2), AreBelow-read w n P h.1)

  blank-read : (n : ℕ) → read_row f (replicate n None) ≡ replicate n None
  blank-read zero = refl
  blank-read (suc n) = ap (λ r. None ∷ r) (blank-read n)

  blank-in : (n : ℕ) → EachBound In (replicate n None)
  blank-in zero = tt
  blank-in (suc n) = blank-in n

  cut-read : (w : ℕ) (R : List (Solution A)) → map (read_row f) (map (take w) R) ≡ map (take w) (map (read_row f) R)
  cut-read w [] = refl
  cut-read w (r ∷ R) = λ i. sym (take-map (option_map f) w r) i ∷ cut-read w R i

  pub bgp-read : ((x y : A) → Decides (sa x y) (x ≡ y)) → ((x y : B) → Decides (sb x y) (x ≡ y)) → (w l : ℕ) (P : List (TriplePattern A)) (G : List (Triple A)) → IsWithoutRepeats (same_triple_by sa) G → AreBelow w (w + l) P
      → Each (EachOfPattern In) P → Each (EachOfTriple In) G
      → IsSameBag (map (read_row f) (bgp sa w l P G)) (bgp sb w l (map (read_triple (read_pattern_term f)) P) (map (read_triple f) G))
  bgp-read da db w l P G once below i j =
      let n = w + l in
      let P' = map (read_triple (read_pattern_term f)) P in
      let G' = map (read_triple f) G in
      let here = IsPermutation-map (read_row f) (bgp sa w l P G) (map (take w) (solve sa w P G (replicate n None))) (IsPermutation-sym (map (take w) (solve sa w P G (replicate n None))) (bgp sa w l P G) (solve-bgp sa da w l P G once below)) in
      let there = solve-bgp sb db w l P' G' (IsWithoutRepeats-read G j once) (AreBelow-read w n P below) in
      let e : map (read_row f) (map (take w) (solve sa w P G (replicate n None))) ≡ map (take w) (solve sb w P' G' (replicate n None)) =
      cut-read w (solve sa w P G (replicate n None)) ∙ ap (map (take w)) (sym (solve-read sa sb In f one w P G (replicate n None) i j (blank-in n)) ∙ ap (solve sb w P' G') (blank-read n)) in
      IsPermutation-trans (map (read_row f) (bgp sa w l P G)) (map (take w) (solve sb w P' G' (replicate n None))) (bgp sb w l P' G') (subst (λ R. IsPermutation (map (read_row f) (bgp sa w l P G)) R) e here) there

  take-bound : (w : ℕ) (m : Solution A) → EachBound In m → EachBound In (take w m)
  take-bound zero m h = tt
  take-bound (suc w) [] h = tt
  take-bound (suc w) (None ∷ m) h = take-bound w m h
  take-bound (suc w) (Some x ∷ m) h = (h.0, take-bound w m h.1)

  -- the solutions of a pattern bind only terms of the graph
  pub bgp-bound : ((x y : A) → Decides (sa x y) (x ≡ y)) → (w l : ℕ) (P : List (TriplePattern A)) (G : List (Triple A)) → IsWithoutRepeats (same_triple_by sa) G → AreBelow w (w + l) P
      → Each (EachOfTriple In) G → Each (EachBound In) (bgp sa w l P G)
  bgp-bound da w l P G once below j =
      let found = solve sa w P G (replicate (w + l) None) in
      Each-IsSameBag (EachBound In) (map (take w) found) (bgp sa w l P G) (solve-bgp sa da w l P G once below)
      (Each-map (EachBound In) (EachBound In) (take w) (λ m h. take-bound w m h) found (solve-bound sa sb In f one w P G (replicate (w + l) None) j (unbound-bound In (w + l))))
