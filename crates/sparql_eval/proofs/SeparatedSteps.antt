-- Rows that are made cell by cell of the cells of known rows, and pairs of rows with different keys.
use Rattle.std.proofs.Common.{◌≡◌, ℕ, ◌<◌, Bool, true, false, List, [], ◌∷◌, ◌++◌, length, map, filter, get_or, slice_get, option_map, nat_eq, Option, None, Some, Result, Ok, Err, OnOk, OnErr, refl, sym, ap, ◌∙◌, subst}
use Rattle.std.proofs.lemmas.Bool.{and_parts, false≢true}
use Rattle.std.proofs.lemmas.List.{append-nil, map-append}
use Rattle.std.proofs.lemmas.List.Elements.{filter-append}
use Rattle.std.proofs.lemmas.Option.{slice_get-get_or}
use Rattle.rdf_core.specs.declared.term.Term.{Term}
use Rattle.algebra_model.specs.Bag.{IsSameBag}
use Rattle.algebra_model.specs.Renaming.{Each}
use Rattle.algebra_model.specs.Solution.{Solution, agree, is_compatible, merge}
use Rattle.algebra_model.proofs.RangeLaws.{Each-append, merge-bound}
use Rattle.dict_core.specs.Dict.{AreDistinct}
use Rattle.row_core.specs.RowList.{RowList}
use Rattle.sparql_eval.specs.Fitting.{AreStillEvaluated, fits, meet}
use Rattle.sparql_eval.specs.KeyedRows.{key_number}
use Rattle.sparql_eval.specs.Numbered.{AreKnownAt, IsKnownAt, IsKnownCell}
use Rattle.sparql_eval.specs.declared.equalities.Equality.{Equality}
use Rattle.sparql_eval.proofs.FittingSteps.{filter-no, fits-at}
use Rattle.sparql_eval.proofs.KeySteps.{cells_agree, known_cell}
use Rattle.sparql_eval.proofs.ReadingLaws.{Known, read_by, row_known}

-- what a row binds a variable to
pub cell_known : (terms : List Term) (A : List (Solution ℕ)) → AreKnownAt terms A → (i v : ℕ) → i < length A → (c : Option ℕ) → c ≡ get_or (get_or A i []) v None → IsKnownCell terms c
cell_known terms A known i v low c e =
    known_cell terms (get_or A i []) (known i (get_or A i []) (slice_get-get_or A i [] low)) v c e

-- one more cell
pub known_more : (terms : List Term) (μ : Solution ℕ) (c : Option ℕ) → Known terms μ → IsKnownCell terms c → Known terms (μ ++ c ∷ [])
known_more terms [] None h k = tt
known_more terms [] (Some n) h k = (k, tt)
known_more terms (None ∷ μ) c h k = known_more terms μ c h k
known_more terms (Some n ∷ μ) c h k = (h.0, known_more terms μ c h.1 k)

-- ---- pairs of rows with different keys

-- the merge of rows with different key numbers does not fit
pub unfit : (terms : List Term) → AreDistinct terms → (pairs : List Equality) (i : ℕ) (p : Equality) → slice_get pairs i ≡ Some p
    → (μ ν : Solution ℕ) → IsKnownAt terms μ → IsKnownAt terms ν → (a b : Option ℕ) → a ≡ get_or μ p.left.variable None → b ≡ get_or ν p.right.variable None
    → agree nat_eq (option_map (key_number terms) a) (option_map (key_number terms) b) ≡ false
    → is_compatible nat_eq μ ν ≡ true → fits pairs (read_by terms (merge μ ν)) ≡ false
unfit terms once pairs i p at μ ν knownL knownR a b left right apart c = by (fits pairs ρ) refl
  where
    ρ : Solution Term
    ρ = read_by terms (merge μ ν)

    differ : agree nat_eq (option_map (key_number terms) (get_or μ p.left.variable None)) (option_map (key_number terms) (get_or ν p.right.variable None)) ≡ false
    differ = sym (λ j. agree nat_eq (option_map (key_number terms) (left j)) (option_map (key_number terms) (right j))) ∙ apart

    by : (b : Bool) → fits pairs ρ ≡ b → b ≡ false
    by false e = refl
    by true e =
        let met = and_parts (meet (get_or ρ p.left.variable None) (get_or ρ p.right.variable None)) true (fits-at pairs i p at ρ e) in
        absurd (false≢true (sym differ ∙ cells_agree terms once μ ν (row_known terms μ knownL) (row_known terms ν knownR) c p.left.variable p.right.variable met.0))

-- the merge of known rows
pub merge_known : (terms : List Term) (μ ν : Solution ℕ) → IsKnownAt terms μ → IsKnownAt terms ν → Known terms (merge μ ν)
merge_known terms μ ν h k = merge-bound (λ n. n < length terms) μ ν (row_known terms μ h) (row_known terms ν k)

-- one more row that does not fit
one_more : (terms : List Term) (pairs : List Equality) (old new : RowList) (μ : Solution ℕ) → new.width ≡ old.width → new.rows ≡ old.rows ++ μ ∷ []
    → Known terms μ → fits pairs (read_by terms μ) ≡ false → AreStillEvaluated terms pairs old new
one_more terms pairs old new μ wide is known out w A h =
    let test : Solution Term → Bool = fits pairs in
    let read : List (Solution ℕ) → List (Solution Term) = map (read_by terms) in
    let same : filter test (read new.rows) ≡ filter test (read old.rows) =
    ap (λ (l : List (Solution ℕ)). filter test (read l)) is ∙ ap (filter test) (map-append (read_by terms) old.rows (μ ∷ []))
    ∙ filter-append test (read old.rows) (read_by terms μ ∷ []) ∙ ap (λ (l : List (Solution Term)). filter test (read old.rows) ++ l) (filter-no test (read_by terms μ) [] out)
    ∙ append-nil (filter test (read old.rows)) in
    record {
      grown = h.grown;
      wide = wide ∙ h.wide;
      known = subst (Each (Known terms)) (sym is) (Each-append (Known terms) old.rows (μ ∷ []) h.known (known, tt));
      bag = subst (λ (l : List (Solution Term)). IsSameBag l (filter test A)) (sym same) h.bag;
    }

-- the same rows
same_rows : (terms : List Term) (pairs : List Equality) (old new : RowList) → new.width ≡ old.width → new.rows ≡ old.rows → AreStillEvaluated terms pairs old new
same_rows terms pairs old new wide is w A h = record {
  grown = h.grown;
  wide = wide ∙ h.wide;
  known = subst (Each (Known terms)) (sym is) h.known;
  bag = subst (λ (l : List (Solution ℕ)). IsSameBag (filter (fits pairs) (map (read_by terms) l)) (filter (fits pairs) A)) (sym is) h.bag;
}

-- a row that does not fit, if there is memory for it
pub pushed : {U E : Type 0} (r : Result U E) (terms : List Term) (pairs : List Equality) (old new : RowList) (μ : Solution ℕ) → new.width ≡ old.width → OnOk r (new.rows ≡ old.rows ++ μ ∷ []) → OnErr r (new.rows ≡ old.rows)
    → Known terms μ → fits pairs (read_by terms μ) ≡ false → AreStillEvaluated terms pairs old new
pushed (Ok x) terms pairs old new μ wide is same known out = one_more terms pairs old new μ wide is known out
pushed (Err e) terms pairs old new μ wide is same known out = same_rows terms pairs old new wide same
