-- The numbers of named graphs, and rows joined with the name of a graph.
use Rattle.std.proofs.Common.{◌≡◌, ℕ, ◌+◌, ◌<◌, ◌≤◌, Bool, true, false, cond, ◌||◌, List, [], ◌∷◌, ◌++◌, length, map, take, filter_map, nat_eq, nat_cmp, eq-eqb, ne_eqb, get_or, slice_get, Contains, Option, None, Some, MatchOption, Result, Ok, Err, is_ok, ⊎_elim, refl, sym, ap, ◌∙◌, subst, Decides, IsPermutation, append_assoc, arith}
use Rattle.std.specs.Bool.{then_some}
use Rattle.std.specs.List.{list_any, cons_option, All, AllByRecursion, IsDistinct}
use Rattle.std.specs.Option.{option_map, ForSome}
use Rattle.std.specs.List.Sorted.{IsBinarySearchResult, IsStrictlyIncreasing}
use Rattle.std.proofs.lemmas.Bool.{cases_lt}
use Rattle.std.proofs.lemmas.Bool.Decides.{Decides-eqb}
use Rattle.std.proofs.lemmas.List.Elements.{All-head, All-tail, All-cons}
use Rattle.std.proofs.lemmas.List.{get_or_default}
use Rattle.std.proofs.lemmas.List.Folds.{list_any_at, list_any_none}
use Rattle.std.proofs.lemmas.List.Sorted.{IsPermutation-map, IsPermutation-trans, IsPermutation-refl, searched}
use Rattle.std.proofs.lemmas.Map.Keys.{IsDistinct-IsPermutation, non_decreasing_from_sorted, sorted_from_strictly_increasing}
use Rattle.rdf_core.specs.declared.term.Term.{Term}
use Rattle.rdf_core.specs.QuadParts.{QuadParts}
use Rattle.rdf_core.proofs.TermLaws.{term_eq, term_decides}
use Rattle.algebra_model.specs.Bag.{IsWithoutRepeats, without_repeats}
use Rattle.algebra_model.specs.Dataset.{names}
use Rattle.algebra_model.specs.Operators.{join}
use Rattle.algebra_model.specs.Renaming.{Each}
use Rattle.algebra_model.specs.Solution.{Solution, is_compatible, merge}
use Rattle.algebra_model.proofs.RangeLaws.{Each-IsSameBag, Each-without_repeats}
use Rattle.algebra_model.proofs.RepeatLaws.{IsWithoutRepeats-without_repeats, any-map}
use Rattle.algebra_model.proofs.SetLaws.{alike_from_set, set_from_permutation}
use Rattle.dict_core.specs.Dict.{AreDistinct, term_at}
use Rattle.dict_core.specs.NumQuad.{AreBelow, IsBelow, quads_at}
use Rattle.dict_core.specs.declared.num_quad.NumQuad.{NumQuad}
use Rattle.quad_index.specs.Matching.{graph_names}
use Rattle.quad_index.proofs.ReadingLaws.{once-map}
use Rattle.row_core.proofs.TurnLaws.{join-take}
use Rattle.sparql_eval.specs.GraphNumbers.{IsGraphNumber}
use Rattle.sparql_eval.proofs.ReadingLaws.{apart, equal_by_number, number_known, number_read}
use Rattle.sparql_eval.proofs.PatternSteps.{not_at}
use Rattle.sparql_eval.proofs.UnboundLaws.{neither}

-- ---- a row joined with the row of the name

pub named_take : (R : List (Solution ℕ)) (ν : Solution ℕ) (i : ℕ) (μ : Solution ℕ) → slice_get R i ≡ Some μ → join nat_eq (take (i + 1) R) (ν ∷ []) ≡ join nat_eq (take i R) (ν ∷ []) ++ cond (is_compatible nat_eq μ ν) (merge μ ν ∷ []) []
named_take R ν i μ h = join-take R (ν ∷ []) i μ h ∙ ap (λ l. join nat_eq (take i R) (ν ∷ []) ++ l) (by (is_compatible nat_eq μ ν))
  where
    by : (b : Bool) → map (merge μ) (cond b (ν ∷ []) []) ≡ cond b (merge μ ν ∷ []) []
    by true = refl
    by false = refl

pub named_turn : (R : List (Solution ℕ)) (ν : Solution ℕ) (i : ℕ) (μ : Solution ℕ) → slice_get R i ≡ Some μ → (before made made' : List (Solution ℕ)) (b : Bool) → b ≡ is_compatible nat_eq μ ν
    → made ≡ before ++ join nat_eq (take i R) (ν ∷ []) → made' ≡ made ++ cond b (merge μ ν ∷ []) [] → made' ≡ before ++ join nat_eq (take (i + 1) R) (ν ∷ [])
named_turn R ν i μ h before made made' b is was e =
    e ∙ ap (λ (l : List (Solution ℕ)). l ++ cond b (merge μ ν ∷ []) []) was ∙ append_assoc before (join nat_eq (take i R) (ν ∷ [])) (cond b (merge μ ν ∷ []) [])
    ∙ ap (λ (c : Bool). before ++ (join nat_eq (take i R) (ν ∷ []) ++ cond c (merge μ ν ∷ []) [])) is
    ∙ ap (λ (l : List (Solution ℕ)). before ++ l) (sym (named_take R ν i μ h))

-- ---- a search in increasing numbers

rise : (xs : List ℕ) → IsStrictlyIncreasing xs → (i j : ℕ) → i ≤ j → j < length xs → get_or xs i 0 ≤ get_or xs j 0
rise xs up i j = non_decreasing_from_sorted xs (sorted_from_strictly_increasing xs up) i j 0

-- the search finds a number exactly if it is among them
pub search_finds : (xs : List ℕ) → IsStrictlyIncreasing xs → (n : ℕ) (r : Result ℕ ℕ) → IsBinarySearchResult (λ x. nat_cmp x n) xs r → is_ok r ≡ list_any (λ x. nat_eq x n) xs
search_finds xs up n (Ok i) is =
    let found = searched xs n (Ok i) is (rise xs up) in
    sym (list_any_at (λ x. nat_eq x n) xs i 0 found.0 (eq-eqb (get_or xs i 0) n found.1))
search_finds xs up n (Err i) is =
    let parted = searched xs n (Err i) is (rise xs up) in
    sym (list_any_none (λ x. nat_eq x n) xs (λ k d low. ne_eqb (get_or xs k d) n (λ same.
    let read = get_or_default xs k d 0 low in
    ⊎_elim (λ l. omega (arith, same, read, parted.1 k l)) (λ l. omega (arith, same, read, parted.2 k l low)) (cases_lt k i))))

-- ---- the names of the graphs

names_mapped : (terms : List Term) (quads : List NumQuad) → filter_map (λ (q : QuadParts). q.g) (quads_at terms quads) ≡ map (term_at terms) (graph_names quads)
names_mapped terms [] = refl
names_mapped terms (q ∷ quads) = by q.g (names_mapped terms quads)
  where
    by : (x : Option ℕ) → filter_map (λ (p : QuadParts). p.g) (quads_at terms quads) ≡ map (term_at terms) (graph_names quads)
        → cons_option (option_map (term_at terms) x) (filter_map (λ (p : QuadParts). p.g) (quads_at terms quads)) ≡ map (term_at terms) (cons_option x (graph_names quads))
    by None e = e
    by (Some n) e = ap (λ l. term_at terms n ∷ l) e

names_below : (n : ℕ) (quads : List NumQuad) → AreBelow n quads → Each (λ g. g < n) (graph_names quads)
names_below n [] h = tt
names_below n (q ∷ quads) h = by q.g (All-head (IsBelow n) q quads h).3 (names_below n quads (All-tail (IsBelow n) q quads h))
  where
    by : (x : Option ℕ) → ForSome x (λ g. g < n) → Each (λ g. g < n) (graph_names quads) → Each (λ g. g < n) (cons_option x (graph_names quads))
    by None a b = b
    by (Some g) a b = (a g refl, b)

all_of : (P : ℕ → Type 0) (xs : List ℕ) → Each P xs → All P xs
all_of P [] h = λ k d low. absurd (omega arith)
all_of P (x ∷ xs) h = All-cons P x xs h.0 (all_of P xs h.1)

module _ {X : Type 0} (same : X → X → Bool) where
  pub symmetric : ((x y : X) → Decides (same x y) (x ≡ y)) → (x y : X) → same x y ≡ same y x
  symmetric decides x y = Rattle.std.specs.Cmp.both_ways (same x y) (same y x) (λ e. (decides y x).1 (sym ((decides x y).0 e))) (λ e. (decides x y).1 (sym ((decides y x).0 e)))

  distinct_once : (xs : List X) → IsWithoutRepeats same xs → IsDistinct same xs
  unfolding IsDistinct
  distinct_once [] h = tt
  distinct_once (x ∷ xs) h = (none xs h.0, distinct_once xs h.1)
    where
      none : (ys : List X) → list_any (same x) ys ≡ false → AllByRecursion (λ y. same x y ≡ false) ys
      none [] e = tt
      none (y ∷ ys) e = let p = neither (same x y) (list_any (same x) ys) e in (p.0, none ys p.1)

module _ (terms : List Term) (once : AreDistinct terms) (index : List NumQuad) (below : AreBelow (length terms) index) (graphs : List ℕ) (are : IsPermutation (without_repeats nat_eq (graph_names index)) graphs) where
  pub graph_below : Each (λ g. g < length terms) graphs
  graph_below = Each-IsSameBag (λ g. g < length terms) (without_repeats nat_eq (graph_names index)) graphs are (Each-without_repeats (λ g. g < length terms) nat_eq (graph_names index) (names_below (length terms) index below))

  pub names_read : IsPermutation (names (quads_at terms index)) (map (term_at terms) graphs)
  names_read =
      let mapped : IsPermutation (without_repeats term_eq (map (term_at terms) (graph_names index))) (map (term_at terms) (without_repeats nat_eq (graph_names index))) =
      once-map nat_eq Decides-eqb term_eq term_decides (term_at terms) (λ n. n < length terms) (apart terms once) (graph_names index) (all_of (λ g. g < length terms) (graph_names index) (names_below (length terms) index below)) in
      IsPermutation-trans (names (quads_at terms index)) (map (term_at terms) (without_repeats nat_eq (graph_names index))) (map (term_at terms) graphs)
      (subst (λ l. IsPermutation (without_repeats term_eq l) (map (term_at terms) (without_repeats nat_eq (graph_names index)))) (sym (names_mapped terms index)) mapped)
      (IsPermutation-map (term_at terms) (without_repeats nat_eq (graph_names index)) graphs are)

  pub names_once : IsDistinct term_eq (map (term_at terms) graphs)
  names_once =
      IsDistinct-IsPermutation term_eq (symmetric term_eq term_decides) (names (quads_at terms index)) (map (term_at terms) graphs) names_read
      (distinct_once term_eq (names (quads_at terms index)) (IsWithoutRepeats-without_repeats term_eq (filter_map (λ (q : QuadParts). q.g) (quads_at terms index))))

  among : (n : ℕ) → n < length terms → (gs : List ℕ) → Each (λ g. g < length terms) gs → list_any (λ g. term_eq (term_at terms n) (term_at terms g)) gs ≡ list_any (λ g. nat_eq g n) gs
  among n low [] h = refl
  among n low (g ∷ gs) h = λ i. (equal_by_number terms once n g low h.0 ∙ symmetric nat_eq Decides-eqb n g) i || among n low gs h.1 i

  -- a name is the name of some graph exactly if its number is
  pub name_found : (t : Term) (n : ℕ) → n < length terms → term_at terms n ≡ t → list_any (term_eq t) (names (quads_at terms index)) ≡ list_any (λ g. nat_eq g n) graphs
  name_found t n low e =
      alike_from_set (names (quads_at terms index)) (map (term_at terms) graphs) (set_from_permutation (names (quads_at terms index)) (map (term_at terms) graphs) names_read) (term_eq t)
      ∙ any-map (term_eq t) (term_at terms) graphs ∙ ap (λ u. list_any (λ g. term_eq u (term_at terms g)) graphs) (sym e) ∙ among n low graphs graph_below

  -- the result for a name that has a number, by whether the number is that of some graph
  pub number_found : (t : Term) (n : ℕ) → slice_get terms n ≡ Some t → (b : Bool) → b ≡ list_any (λ g. nat_eq g n) graphs → MatchOption (then_some b n) (list_any (term_eq t) (names (quads_at terms index)) ≡ false) (IsGraphNumber terms index t)
  number_found t n at b is = by b (name_found t n low read ∙ sym is)
    where
      low : n < length terms
      low = number_known terms n t at

      read : term_at terms n ≡ t
      read = number_read terms n t at

      by : (b : Bool) → list_any (term_eq t) (names (quads_at terms index)) ≡ b → MatchOption (then_some b n) (list_any (term_eq t) (names (quads_at terms index)) ≡ false) (IsGraphNumber terms index t)
      by true e = (e, low, read)
      by false e = e

-- a term that the dictionary lacks is not the name of a graph
pub name_absent : (terms : List Term) → AreDistinct terms → (index : List NumQuad) → AreBelow (length terms) index → (t : Term) → (Contains terms t → ⊥) → list_any (term_eq t) (names (quads_at terms index)) ≡ false
name_absent terms once index below t lacks =
    let graphs = without_repeats nat_eq (graph_names index) in
    let are = IsPermutation-refl graphs in
    alike_from_set (names (quads_at terms index)) (map (term_at terms) graphs) (set_from_permutation (names (quads_at terms index)) (map (term_at terms) graphs) (names_read terms once index below graphs are)) (term_eq t)
    ∙ any-map (term_eq t) (term_at terms) graphs ∙ none graphs (graph_below terms once index below graphs are)
  where
    none : (gs : List ℕ) → Each (λ g. g < length terms) gs → list_any (λ g. term_eq t (term_at terms g)) gs ≡ false
    none [] h = refl
    none (g ∷ gs) h = λ i. not_at terms t lacks g h.0 i || none gs h.1 i
