-- A step of an evaluation on numbers: if the rows of the operands read as multisets of terms, the
-- rows of the result read as the multiset of the operator.
use Rattle.std.proofs.Common.{◌≡◌, ℕ, ◌+◌, Bool, List, [], ◌∷◌, ◌++◌, map, filter, flat_map, set, replicate, Option, None, Some, option_map, Decides, sym, ap, ◌∙◌, subst}
use Rattle.std.proofs.lemmas.List.{map-append, map-set}
use Rattle.std.proofs.lemmas.List.Sorted.{IsPermutation-refl, IsPermutation-trans, IsPermutation-map}
use Rattle.algebra_model.specs.Bag.{IsSameBag, IsWithoutRepeats}
use Rattle.algebra_model.specs.Solution.{Solution, same_solution}
use Rattle.algebra_model.specs.Bgp.{Triple, TriplePattern, bgp, same_triple_by}
use Rattle.algebra_model.specs.Operators.{join, left_join, minus, distinct, extend, project, table}
use Rattle.algebra_model.specs.Eval.{named}
use Rattle.algebra_model.specs.Renaming.{Each, EachBound, EachOfTriple, EachOfPattern, read_row, read_triple, read_pattern}
use Rattle.algebra_model.specs.Solve.{AreBelow}
use Rattle.algebra_model.proofs.BagLaws.{IsPermutation-flat_map}
use Rattle.algebra_model.proofs.BgpLaws.{solution_decides}
use Rattle.algebra_model.proofs.CongruenceLaws as bags
use Rattle.algebra_model.proofs.RangeLaws.{unbound-bound, set-bound}
use Rattle.algebra_model.proofs.ReadingLaws.{join-read, minus-read, filter-read}
use Rattle.algebra_model.proofs.OperatorReadingLaws.{left_join-read, extend-read, project-read, distinct-read, table-read, unbound-read}
use Rattle.algebra_model.proofs.BgpReadingLaws.{bgp-read}

-- the rows, read as terms, are the multiset
abbrev pub ReadAs : {A B : Type 0} → (A → B) → List (Solution A) → List (Solution B) → Type 0
ReadAs f J E = IsSameBag (map (read_row f) J) E

module _ {A B : Type 0} (sa : A → A → Bool) (sb : B → B → Bool) (In : A → Type 0) (f : A → B) (one : (x y : A) → In x → In y → sb (f x) (f y) ≡ sa x y) (db : (x y : B) → Decides (sb x y) (x ≡ y)) where
  -- what the rows are, what they read as, and which multiset that is
  step : (J K : List (Solution A)) (E F : List (Solution B)) → IsSameBag J K → E ≡ map (read_row f) K → IsSameBag E F → ReadAs f J F
  step J K E F h e k = IsPermutation-trans (map (read_row f) J) E F (subst (λ l. IsSameBag (map (read_row f) J) l) (sym e) (IsPermutation-map (read_row f) J K h)) k

  pub join-step : (L R J : List (Solution A)) (E F : List (Solution B)) → ReadAs f L E → ReadAs f R F → Each (EachBound In) L → Each (EachBound In) R → IsSameBag J (join sa L R) → ReadAs f J (join sb E F)
  join-step L R J E F h k i j e =
      step J (join sa L R) (join sb (map (read_row f) L) (map (read_row f) R)) (join sb E F) e (join-read sa sb In f one L R i j) (bags.join-IsSameBag sb db (map (read_row f) L) E (map (read_row f) R) F h k)

  pub left_join-step : (p : Solution B → Bool) (q : Solution A → Bool) → ((μ : Solution A) → EachBound In μ → p (read_row f μ) ≡ q μ)
      → (L R J : List (Solution A)) (E F : List (Solution B)) → ReadAs f L E → ReadAs f R F → Each (EachBound In) L → Each (EachBound In) R → IsSameBag J (left_join sa q L R) → ReadAs f J (left_join sb p E F)
  left_join-step p q t L R J E F h k i j e =
      step J (left_join sa q L R) (left_join sb p (map (read_row f) L) (map (read_row f) R)) (left_join sb p E F) e (left_join-read sa sb In f one p q t L R i j) (bags.left_join-IsSameBag sb db p (map (read_row f) L) E (map (read_row f) R) F h k)

  pub minus-step : (L R J : List (Solution A)) (E F : List (Solution B)) → ReadAs f L E → ReadAs f R F → Each (EachBound In) L → Each (EachBound In) R → IsSameBag J (minus sa L R) → ReadAs f J (minus sb E F)
  minus-step L R J E F h k i j e =
      step J (minus sa L R) (minus sb (map (read_row f) L) (map (read_row f) R)) (minus sb E F) e (minus-read sa sb In f one L R i j) (bags.minus-IsSameBag sb db (map (read_row f) L) E (map (read_row f) R) F h k)

  pub union-step : (L R J : List (Solution A)) (E F : List (Solution B)) → ReadAs f L E → ReadAs f R F → IsSameBag J (L ++ R) → ReadAs f J (E ++ F)
  union-step L R J E F h k e =
      step J (L ++ R) (map (read_row f) L ++ map (read_row f) R) (E ++ F) e (sym (map-append (read_row f) L R)) (bags.union-IsSameBag sb db (map (read_row f) L) E (map (read_row f) R) F h k)

  pub filter-step : (p : Solution B → Bool) (q : Solution A → Bool) → ((μ : Solution A) → EachBound In μ → p (read_row f μ) ≡ q μ)
      → (L J : List (Solution A)) (E : List (Solution B)) → ReadAs f L E → Each (EachBound In) L → IsSameBag J (filter q L) → ReadAs f J (filter p E)
  filter-step p q t L J E h i e =
      step J (filter q L) (filter p (map (read_row f) L)) (filter p E) e (filter-read sa sb In f one p q t L i) (bags.filter-IsSameBag sb db p (map (read_row f) L) E h)

  pub extend-step : (v : ℕ) (p : Solution B → Option B) (q : Solution A → Option A) (L J : List (Solution A)) (E : List (Solution B)) → ReadAs f L E
      → Each (λ μ. p (read_row f μ) ≡ option_map f (q μ)) L → IsSameBag J (extend v q L) → ReadAs f J (extend v p E)
  extend-step v p q L J E h t e =
      step J (extend v q L) (extend v p (map (read_row f) L)) (extend v p E) e (extend-read sa sb In f one v p q L t) (bags.extend-IsSameBag v p (map (read_row f) L) E h)

  pub project-step : (vs : List ℕ) (L J : List (Solution A)) (E : List (Solution B)) → ReadAs f L E → IsSameBag J (project vs L) → ReadAs f J (project vs E)
  project-step vs L J E h e =
      step J (project vs L) (project vs (map (read_row f) L)) (project vs E) e (project-read sa sb In f one vs L) (bags.project-IsSameBag vs (map (read_row f) L) E h)

  pub distinct-step : (L J : List (Solution A)) (E : List (Solution B)) → ReadAs f L E → Each (EachBound In) L → IsSameBag J (distinct sa L) → ReadAs f J (distinct sb E)
  distinct-step L J E h i e =
      step J (distinct sa L) (distinct sb (map (read_row f) L)) (distinct sb E) e (distinct-read sa sb In f one L i) (bags.distinct-IsSameBag sb db (map (read_row f) L) E h)

  pub table-step : (w : ℕ) (vs : List ℕ) (rows J : List (Solution A)) → IsSameBag J (table w vs rows) → ReadAs f J (table w vs (map (read_row f) rows))
  table-step w vs rows J e =
      step J (table w vs rows) (table w vs (map (read_row f) rows)) (table w vs (map (read_row f) rows)) e (table-read sa sb In f one w vs rows) (IsPermutation-refl (table w vs (map (read_row f) rows)))

  pub pattern-step : ((x y : A) → Decides (sa x y) (x ≡ y)) → (w l : ℕ) (P : List (TriplePattern A)) (G : List (Triple A)) → IsWithoutRepeats (same_triple_by sa) G → AreBelow w (w + l) P
      → Each (EachOfPattern In) P → Each (EachOfTriple In) G
      → (J : List (Solution A)) → IsSameBag J (bgp sa w l P G) → ReadAs f J (bgp sb w l (map (read_pattern f) P) (map (read_triple f) G))
  pattern-step da w l P G once below i j J e =
      IsPermutation-trans (map (read_row f) J) (map (read_row f) (bgp sa w l P G)) (bgp sb w l (map (read_pattern f) P) (map (read_triple f) G)) (IsPermutation-map (read_row f) J (bgp sa w l P G) e) (bgp-read sa sb In f one da db w l P G once below i j)

  pub named-read : (w v : ℕ) (n : A) → named w v (f n) ≡ map (read_row f) (named w v n)
  named-read w v n = ap (λ r. r ∷ []) (ap (λ r. set r v (Some (f n))) (unbound-read sa sb In f one w) ∙ sym (map-set (option_map f) (replicate w None) v (Some n)))

  named-bound : (w v : ℕ) (n : A) → In n → Each (EachBound In) (named w v n)
  named-bound w v n i = (set-bound In (replicate w None) v (Some n) i (unbound-bound In w), tt)

  -- GRAPH under a variable: `rows n` are the solutions over the graph whose name is the number n
  pub each_graph-step : (w v : ℕ) (rows : A → List (Solution A)) (Q : B → List (Solution B)) (N : List A)
      → Each In N → Each (λ n. Each (EachBound In) (rows n)) N → Each (λ n. ReadAs f (rows n) (Q (f n))) N
      → ReadAs f (flat_map (λ n. join sa (rows n) (named w v n)) N) (flat_map (λ i. join sb (Q i) (named w v i)) (map f N))
  each_graph-step w v rows Q [] i j h = IsPermutation-refl []
  each_graph-step w v rows Q (n ∷ N) i j h =
      let here : ReadAs f (join sa (rows n) (named w v n)) (join sb (Q (f n)) (named w v (f n))) =
      join-step (rows n) (named w v n) (join sa (rows n) (named w v n)) (Q (f n)) (named w v (f n)) h.0 (subst (λ l. IsSameBag l (named w v (f n))) (named-read w v n) (IsPermutation-refl (named w v (f n)))) j.0 (named-bound w v n i.0) (IsPermutation-refl (join sa (rows n) (named w v n))) in
      subst (λ l. IsSameBag l (join sb (Q (f n)) (named w v (f n)) ++ flat_map (λ i. join sb (Q i) (named w v i)) (map f N))) (sym (map-append (read_row f) (join sa (rows n) (named w v n)) (flat_map (λ n. join sa (rows n) (named w v n)) N)))
      (bags.union-IsSameBag sb db (map (read_row f) (join sa (rows n) (named w v n))) (join sb (Q (f n)) (named w v (f n))) (map (read_row f) (flat_map (λ n. join sa (rows n) (named w v n)) N)) (flat_map (λ i. join sb (Q i) (named w v i)) (map f N)) here (each_graph-step w v rows Q N i.1 j.1 h.1))

  -- the names may be in any order
  pub graphs-step : (w v : ℕ) (rows : A → List (Solution A)) (Q : B → List (Solution B)) (N : List A) (M : List B) → IsSameBag (map f N) M
      → Each In N → Each (λ n. Each (EachBound In) (rows n)) N → Each (λ n. ReadAs f (rows n) (Q (f n))) N
      → (J : List (Solution A)) → IsSameBag J (flat_map (λ n. join sa (rows n) (named w v n)) N) → ReadAs f J (flat_map (λ i. join sb (Q i) (named w v i)) M)
  graphs-step w v rows Q N M m i j h J e =
      let over = λ (M : List B). flat_map (λ (i : B). join sb (Q i) (named w v i)) M in
      let K = flat_map (λ n. join sa (rows n) (named w v n)) N in
      IsPermutation-trans (map (read_row f) J) (map (read_row f) K) (over M) (IsPermutation-map (read_row f) J K e)
      (IsPermutation-trans (map (read_row f) K) (over (map f N)) (over M) (each_graph-step w v rows Q N i j h)
      (IsPermutation-flat_map (same_solution sb) (solution_decides sb db) (λ (i : B). join sb (Q i) (named w v i)) (map f N) M m))
