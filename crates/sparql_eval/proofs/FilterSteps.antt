-- Filter over pieces of rows.
use Rattle.std.proofs.Common.{◌≡◌, ℕ, zero, suc, ◌+◌, ◌-◌, ◌≤◌, Bool, true, false, cond, List, [], ◌∷◌, ◌++◌, take, drop, map, filter, slice_get, Some, refl, sym, ap, ◌∙◌, subst, arith, zero-add, if◌then◌else◌}
use Rattle.rdf_core.specs.declared.term.Term.{Term}
use Rattle.algebra_model.specs.Bag.{IsSameBag}
use Rattle.algebra_model.specs.Expression.{Expression, holds}
use Rattle.algebra_model.specs.Pieces.{joined}
use Rattle.algebra_model.specs.Solution.{Solution}
use Rattle.algebra_model.proofs.BagLaws.{same_bag}
use Rattle.algebra_model.proofs.RangeLaws.{Each-filter, Each-IsSameBag}
use Rattle.std.proofs.lemmas.List.Sorted.{IsPermutation-map, IsPermutation-sym}
use Rattle.row_core.specs.RowList.{RowList}
use Rattle.row_core.proofs.TurnLaws.{filter-take}
use Rattle.row_pieces.specs.Pieces.{AreRowsOf}
use Rattle.sparql_eval.specs.Evaluated.{IsEvaluated, AreKnown}
use Rattle.sparql_eval.specs.FilterParts.{filter_part, filter_parts}
use Rattle.sparql_eval.proofs.ReadingLaws.{Known, read_by, grown_itself}

pub get_drop : {X : Type 0} (xs : List X) (k j i : ℕ) → i ≡ k + j → slice_get (drop k xs) j ≡ slice_get xs i
get_drop xs zero j i e = ap (slice_get xs) (sym (e ∙ zero-add j))
get_drop [] (suc k) j i e = refl
get_drop (y ∷ ys) (suc k) j zero e = absurd (omega arith)
get_drop (y ∷ ys) (suc k) j (suc i) e = get_drop ys k j i (omega arith)

pub take_none : {X : Type 0} (xs : List X) (n : ℕ) → n ≡ 0 → take n xs ≡ []
take_none xs n e = ap (λ m. take m xs) e

module _ (terms : List Term) (e : Expression) where
  abbrev pub passes : Solution ℕ → Bool
  passes μ = holds e (read_by terms μ)

  parts_joined : (A : List (Solution ℕ)) → joined (filter_parts terms e A) ≡ filter passes A
  parts_joined [] = refl
  parts_joined (μ ∷ A) = ap (λ r. filter_part terms e μ ++ r) (parts_joined A) ∙ by (passes μ)
    where
      by : (b : Bool) → (if b then μ ∷ [] else []) ++ filter passes A ≡ cond b (μ ∷ filter passes A) (filter passes A)
      by true = refl
      by false = refl

  between : (A : List (Solution ℕ)) (n k : ℕ) → take n (drop k (filter_parts terms e A)) ≡ filter_parts terms e (take n (drop k A))
  between [] zero zero = refl
  between [] zero (suc k) = refl
  between [] (suc n) zero = refl
  between [] (suc n) (suc k) = refl
  between (μ ∷ A) zero zero = refl
  between (μ ∷ A) (suc n) zero = ap (λ r. filter_part terms e μ ∷ r) (between A n zero)
  between (μ ∷ A) n (suc k) = between A n k

  -- the result for the rows from one place up to another
  pub made_between : (w : ℕ) (A : List (Solution ℕ)) (n k : ℕ) (made : RowList) → made.width ≡ w → made.rows ≡ filter passes (take n (drop k A)) → AreRowsOf w (take n (drop k (filter_parts terms e A))) made
  made_between w A n k made wide rows =
      (wide, same_bag made.rows _ (rows ∙ sym (ap joined (between A n k) ∙ parts_joined (take n (drop k A)))))

  -- one more row
  pub filter_more : (A : List (Solution ℕ)) (from i : ℕ) (μ : Solution ℕ) → from ≤ i → slice_get A i ≡ Some μ → filter passes (take (i + 1 - from) (drop from A)) ≡ filter passes (take (i - from) (drop from A)) ++ cond (passes μ) (μ ∷ []) []
  filter_more A from i μ low h =
      ap (λ m. filter passes (take m (drop from A))) (let s : i + 1 - from ≡ (i - from) + 1 = omega arith in s)
      ∙ filter-take passes (drop from A) (i - from) μ (get_drop A from (i - from) i (omega arith) ∙ h)

  filter_read : (A : List (Solution ℕ)) → map (read_by terms) (filter passes A) ≡ filter (holds e) (map (read_by terms) A)
  filter_read [] = refl
  filter_read (μ ∷ A) = by (passes μ) ∙ ap (λ r. cond (passes μ) (read_by terms μ ∷ r) r) (filter_read A)
    where
      by : (b : Bool) → map (read_by terms) (cond b (μ ∷ filter passes A) (filter passes A)) ≡ cond b (read_by terms μ ∷ map (read_by terms) (filter passes A)) (map (read_by terms) (filter passes A))
      by true = refl
      by false = refl

  pub filtered : (rows made : RowList) → AreKnown terms rows → AreRowsOf rows.width (filter_parts terms e rows.rows) made → IsEvaluated terms rows.width (filter (holds e) (map (read_by terms) rows.rows)) made terms
  filtered rows made known h =
      let bag : IsSameBag made.rows (filter passes rows.rows) = subst (IsSameBag made.rows) (parts_joined rows.rows) h.1 in
      record {
        grown = grown_itself terms;
        wide = h.0;
        known = Each-IsSameBag (Known terms) (filter passes rows.rows) made.rows (IsPermutation-sym made.rows (filter passes rows.rows) bag) (Each-filter (Known terms) passes rows.rows known);
        bag = subst (IsSameBag (map (read_by terms) made.rows)) (filter_read rows.rows) (IsPermutation-map (read_by terms) made.rows (filter passes rows.rows) bag);
      }
