-- The rows of projected solutions, with and without repeats.
use Rattle.std.proofs.Common.{◌≡◌, ℕ, zero, suc, ◌<◌, ◌||◌, not, Bool, true, false, cond, List, [], ◌∷◌, length, get_or, map, filter, Option, None, Some, Decides, refl, sym, ap, ◌∙◌, if◌then◌else◌, ⊎_elim}
use Rattle.std.specs.Prelude.{◌==◌}
use Rattle.std.specs.List.{list_any}
use Rattle.std.specs.Cmp.{both_ways}
use Rattle.std.proofs.lemmas.Bool.{cases_Bool, eqb-true, false≢true}
use Rattle.std.proofs.lemmas.Bool.Decides.{Decides-eqb}
use Rattle.std.proofs.lemmas.List.{ext_get_or}
use Rattle.rdf_core.specs.declared.term.Term.{Term}
use Rattle.rdf_core.proofs.TermLaws.{term_eq, term_decides}
use Rattle.algebra_model.specs.Bag.{without_repeats}
use Rattle.algebra_model.specs.Operators.{distinct, project, restrict}
use Rattle.algebra_model.specs.Renaming.{Each}
use Rattle.algebra_model.specs.RowOrder.{cells}
use Rattle.algebra_model.specs.Solution.{Solution, same_solution}
use Rattle.algebra_model.proofs.BgpLaws.{solution_decides}
use Rattle.algebra_model.proofs.RangeLaws.{Each-map, Each-without_repeats}
use Rattle.query_split.proofs.OperatorSplits as each
use Rattle.query_parts.proofs.WidthLaws.{length-restrict}

-- the variables that are kept
abbrev pub among : List ℕ → ℕ → Bool
among vs v = list_any (λ u. u == v) vs

get-restrict : (keeps : ℕ → Bool) (μ : Solution Term) (v : ℕ) → get_or (restrict keeps μ) v None ≡ (if keeps v then get_or μ v None else None)
get-restrict keeps [] v = same (keeps v) None
  where
    same : (b : Bool) (o : Option Term) → o ≡ (if b then o else o)
    same true o = refl
    same false o = refl
get-restrict keeps (x ∷ μ) zero = refl
get-restrict keeps (x ∷ μ) (suc v) = get-restrict (λ k. keeps (suc k)) μ v

right_true : (a b : Bool) → b ≡ true → (a || b) ≡ true
right_true true b e = refl
right_true false b e = e

each_among : (vs : List ℕ) → Each (λ v. among vs v ≡ true) vs
each_among [] = tt
each_among (v ∷ vs) =
    (ap (λ b. b || among vs v) ((Decides-eqb v v).1 refl), each.Each-map (λ u e. right_true (v == u) (among vs u) e) vs (each_among vs))

-- the projected variables of a projected solution
pub cells-restrict : (vs : List ℕ) (μ : Solution Term) → cells vs (restrict (among vs) μ) ≡ cells vs μ
cells-restrict vs μ = rest vs (each_among vs)
  where
    rest : (us : List ℕ) → Each (λ u. among vs u ≡ true) us → cells us (restrict (among vs) μ) ≡ cells us μ
    rest [] h = refl
    rest (u ∷ us) h = λ i. (get-restrict (among vs) μ u ∙ ap (λ b. if b then get_or μ u None else None) h.0) i ∷ rest us h.1 i

pub cells-project : (vs : List ℕ) (A : List (Solution Term)) → map (cells vs) (project vs A) ≡ map (cells vs) A
cells-project vs [] = refl
cells-project vs (μ ∷ A) = λ i. cells-restrict vs μ i ∷ cells-project vs A i

-- ---- without repeats

module _ (vs : List ℕ) (w : ℕ) where
  -- of this width, and nothing but the projected variables is bound
  abbrev IsProjected : Solution Term → Type 0
  IsProjected μ = (length μ ≡ w) × ((v : ℕ) → among vs v ≡ false → get_or μ v None ≡ None)

  restricted : (μ : Solution Term) → length μ ≡ w → IsProjected (restrict (among vs) μ)
  restricted μ e = (length-restrict (among vs) μ ∙ e, λ v f. get-restrict (among vs) μ v ∙ ap (λ b. if b then get_or μ v None else None) f)

  head_is : (a b : Option Term) (x y : List (Option Term)) → (a ∷ x) ≡ (b ∷ y) → a ≡ b
  head_is a b x y e = ap (λ l. first l) e
    where
      first : List (Option Term) → Option Term
      first [] = a
      first (z ∷ zs) = z

  tail_is : (a b : Option Term) (x y : List (Option Term)) → (a ∷ x) ≡ (b ∷ y) → x ≡ y
  tail_is a b x y e = ap (λ l. rest l) e
    where
      rest : List (Option Term) → List (Option Term)
      rest [] = x
      rest (z ∷ zs) = zs

  cell_is : (us : List ℕ) (μ ν : Solution Term) → cells us μ ≡ cells us ν → (v : ℕ) → among us v ≡ true → get_or μ v None ≡ get_or ν v None
  cell_is [] μ ν e v a = absurd (false≢true a)
  cell_is (u ∷ us) μ ν e v a =
      let later = λ (b : among us v ≡ true). cell_is us μ ν (tail_is (get_or μ u None) (get_or ν u None) (cells us μ) (cells us ν) e) v b in
      ⊎_elim
      (λ (f : (u == v) ≡ true). let here = head_is (get_or μ u None) (get_or ν u None) (cells us μ) (cells us ν) e in Rattle.std.proofs.Common.subst (λ k. get_or μ k None ≡ get_or ν k None) (eqb-true u v f) here)
      (λ (f : (u == v) ≡ false). later (sym (ap (λ b. b || among us v) f) ∙ a))
      (cases_Bool (u == v))

  -- the row determines the projected solution
  one_row : (μ ν : Solution Term) → IsProjected μ → IsProjected ν → cells vs μ ≡ cells vs ν → μ ≡ ν
  one_row μ ν h k e = ext_get_or None μ ν (h.0 ∙ sym k.0)
      (λ v _. ⊎_elim
      (λ (a : among vs v ≡ true). cell_is vs μ ν e v a)
      (λ (a : among vs v ≡ false). h.1 v a ∙ sym (k.1 v a))
      (cases_Bool (among vs v)))

  same_row : (μ ν : Solution Term) → IsProjected μ → IsProjected ν → same_solution term_eq μ ν ≡ same_solution term_eq (cells vs μ) (cells vs ν)
  same_row μ ν h k =
      let is = solution_decides term_eq term_decides in
      both_ways (same_solution term_eq μ ν) (same_solution term_eq (cells vs μ) (cells vs ν))
      (λ e. (is (cells vs μ) (cells vs ν)).1 (ap (cells vs) ((is μ ν).0 e)))
      (λ e. (is μ ν).1 (one_row μ ν h k ((is (cells vs μ) (cells vs ν)).0 e)))

  unlike_rows : (μ : Solution Term) (A : List (Solution Term)) → IsProjected μ → Each IsProjected A
      → map (cells vs) (filter (λ ν. not (same_solution term_eq μ ν)) A) ≡ filter (λ r. not (same_solution term_eq (cells vs μ) r)) (map (cells vs) A)
  unlike_rows μ [] h k = refl
  unlike_rows μ (ν ∷ A) h k = one (same_solution term_eq μ ν) (same_solution term_eq (cells vs μ) (cells vs ν)) (same_row μ ν h k.0) (unlike_rows μ A h k.1)
    where
      one : (a b : Bool) → a ≡ b
          → map (cells vs) (filter (λ κ. not (same_solution term_eq μ κ)) A) ≡ filter (λ r. not (same_solution term_eq (cells vs μ) r)) (map (cells vs) A)
          → map (cells vs) (cond (not a) (ν ∷ filter (λ κ. not (same_solution term_eq μ κ)) A) (filter (λ κ. not (same_solution term_eq μ κ)) A))
          ≡ cond (not b) (cells vs ν ∷ filter (λ r. not (same_solution term_eq (cells vs μ) r)) (map (cells vs) A)) (filter (λ r. not (same_solution term_eq (cells vs μ) r)) (map (cells vs) A))
      one true true e i = i
      one true false e i = absurd (false≢true (sym e))
      one false true e i = absurd (false≢true e)
      one false false e i = ap (λ l. cells vs ν ∷ l) i

  rows_once : (A : List (Solution Term)) → Each IsProjected A → map (cells vs) (distinct term_eq A) ≡ distinct term_eq (map (cells vs) A)
  rows_once [] h = refl
  rows_once (μ ∷ A) h =
      let W = without_repeats (same_solution term_eq) A in
      ap (λ l. cells vs μ ∷ l)
      (unlike_rows μ W h.0 (Each-without_repeats IsProjected (same_solution term_eq) A h.1)
      ∙ ap (filter (λ r. not (same_solution term_eq (cells vs μ) r))) (rows_once A h.1))

  -- the rows of distinct projected solutions
  pub cells-distinct : (A : List (Solution Term)) → Each (λ μ. length μ ≡ w) A → map (cells vs) (distinct term_eq (project vs A)) ≡ distinct term_eq (map (cells vs) A)
  cells-distinct A h =
      rows_once (project vs A) (Each-map (λ μ. length μ ≡ w) IsProjected (restrict (among vs)) restricted A h)
      ∙ ap (distinct term_eq) (cells-project vs A)
