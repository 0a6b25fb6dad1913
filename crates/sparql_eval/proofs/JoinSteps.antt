-- Join, LeftJoin and Minus of numbers, read as terms.
use Rattle.std.proofs.Common.{◌≡◌, ℕ, zero, suc, ◌<◌, Bool, true, ◌&&◌, List, [], ◌∷◌, length, map, nat_eq, nat_lt, None, Some, refl, sym, subst}
use Rattle.std.proofs.lemmas.Bool.{and_parts}
use Rattle.std.proofs.lemmas.Bool.Decides.{Decides-ltb}
use Rattle.std.proofs.lemmas.List.Sorted.{IsPermutation-map, IsPermutation-sym}
use Rattle.rdf_core.specs.declared.term.Term.{Term}
use Rattle.rdf_core.proofs.TermLaws.{term_eq}
use Rattle.algebra_model.specs.Bag.{IsSameBag}
use Rattle.algebra_model.specs.Expression.{Expression, holds}
use Rattle.algebra_model.specs.Operators.{join, left_join, minus}
use Rattle.algebra_model.specs.Renaming.{Each}
use Rattle.algebra_model.specs.Solution.{Solution}
use Rattle.algebra_model.proofs.OperatorReadingLaws.{left_join-read}
use Rattle.algebra_model.proofs.RangeLaws.{Each-IsSameBag, join-bound, left_join-bound, minus-bound}
use Rattle.algebra_model.proofs.ReadingLaws.{join-read, minus-read}
use Rattle.dict_core.specs.Dict.{AreDistinct, term_at}
use Rattle.row_core.specs.RowList.{RowList}
use Rattle.row_join.specs.Numbers.{passes, all_pass}
use Rattle.sparql_eval.specs.Evaluated.{AreKnown, IsEvaluated}
use Rattle.sparql_eval.specs.Numbered.{IsKnownAt}
use Rattle.sparql_eval.proofs.ReadingLaws.{Known, read_by, equal_by_number, grown_itself}

-- rows that are the same multiset as these solutions of numbers, with the numbers read as terms
pub at_numbers : (terms : List Term) (w : ℕ) (N : List (Solution ℕ)) (A : List (Solution Term)) (made : RowList) → made.width ≡ w → IsSameBag made.rows N → Each (Known terms) N → A ≡ map (read_by terms) N → IsEvaluated terms w A made terms
at_numbers terms w N A made wide bag known read = record {
  grown = grown_itself terms;
  wide = wide;
  known = Each-IsSameBag (Known terms) N made.rows (IsPermutation-sym made.rows N bag) known;
  bag = subst (IsSameBag (map (read_by terms) made.rows)) (sym read) (IsPermutation-map (read_by terms) made.rows N bag);
}

module _ (terms : List Term) (once : AreDistinct terms) (left right made : RowList) (knownL : AreKnown terms left) (knownR : AreKnown terms right) (wide : made.width ≡ left.width) where
  pub joined : IsSameBag made.rows (join nat_eq left.rows right.rows) → IsEvaluated terms left.width (join term_eq (map (read_by terms) left.rows) (map (read_by terms) right.rows)) made terms
  joined bag =
      at_numbers terms left.width (join nat_eq left.rows right.rows) (join term_eq (map (read_by terms) left.rows) (map (read_by terms) right.rows)) made wide bag
      (join-bound (λ n. n < length terms) nat_eq left.rows right.rows knownL knownR)
      (join-read nat_eq term_eq (λ n. n < length terms) (term_at terms) (equal_by_number terms once) left.rows right.rows knownL knownR)

  pub subtracted : IsSameBag made.rows (minus nat_eq left.rows right.rows) → IsEvaluated terms left.width (minus term_eq (map (read_by terms) left.rows) (map (read_by terms) right.rows)) made terms
  subtracted bag =
      at_numbers terms left.width (minus nat_eq left.rows right.rows) (minus term_eq (map (read_by terms) left.rows) (map (read_by terms) right.rows)) made wide bag
      (minus-bound (λ n. n < length terms) nat_eq left.rows right.rows knownL)
      (minus-read nat_eq term_eq (λ n. n < length terms) (term_at terms) (equal_by_number terms once) left.rows right.rows knownL knownR)

  pub left_joined : (e : Expression) → IsSameBag made.rows (left_join nat_eq (λ μ. holds e (read_by terms μ)) left.rows right.rows)
      → IsEvaluated terms left.width (left_join term_eq (holds e) (map (read_by terms) left.rows) (map (read_by terms) right.rows)) made terms
  left_joined e bag =
      at_numbers terms left.width (left_join nat_eq (λ μ. holds e (read_by terms μ)) left.rows right.rows) (left_join term_eq (holds e) (map (read_by terms) left.rows) (map (read_by terms) right.rows)) made wide bag
      (left_join-bound (λ n. n < length terms) nat_eq (λ μ. holds e (read_by terms μ)) left.rows right.rows knownL knownR)
      (left_join-read nat_eq term_eq (λ n. n < length terms) (term_at terms) (equal_by_number terms once) (holds e) (λ μ. holds e (read_by terms μ)) (λ μ h. refl) left.rows right.rows knownL knownR)

-- ---- what a left join requires of the numbers

module _ (terms : List Term) where
  abbrev is_known : ℕ → Bool
  is_known n = nat_lt n (length terms)

  row_passes : (μ : Solution ℕ) → Known terms μ → passes is_known μ ≡ true
  row_passes [] h = refl
  row_passes (None ∷ μ) h = row_passes μ h
  row_passes (Some n ∷ μ) h = λ i. (Decides-ltb n (length terms)).1 h.0 i && row_passes μ h.1 i

  pub rows_pass : (A : List (Solution ℕ)) → Each (Known terms) A → all_pass (λ n. nat_lt n (length terms)) A ≡ true
  rows_pass [] h = refl
  rows_pass (μ ∷ A) h = λ i. row_passes μ h.0 i && rows_pass A h.1 i

  pub passes_known : (μ : Solution ℕ) → passes (λ n. nat_lt n (length terms)) μ ≡ true → IsKnownAt terms μ
  passes_known [] h k n e = cc
  passes_known (None ∷ μ) h zero n e = cc
  passes_known (Some x ∷ μ) h zero n e =
      let p : x ≡ n = cc in subst (λ m. m < length terms) p ((Decides-ltb x (length terms)).0 (and_parts (nat_lt x (length terms)) (passes is_known μ) h).0)
  passes_known (None ∷ μ) h (suc k) n e = passes_known μ h k n e
  passes_known (Some x ∷ μ) h (suc k) n e = passes_known μ (and_parts (nat_lt x (length terms)) (passes is_known μ) h).1 k n e
