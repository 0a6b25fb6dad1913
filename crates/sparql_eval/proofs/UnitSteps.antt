-- A join with the one solution that binds nothing is the other side.
use Rattle.std.proofs.Common.{◌≡◌, ℕ, zero, suc, ◌+◌, ◌<◌, ◌≤◌, ◌&&◌, Bool, true, cond, List, [], ◌∷◌, length, drop, get_or, map, filter, replicate, slice_get, Option, None, Some, is_some, not, All, refl, sym, ap, ◌∙◌, arith, append-nil}
use Rattle.std.specs.List.{list_all}
use Rattle.std.proofs.lemmas.List.{length-map, drop_more, drop_all}
use Rattle.rdf_core.specs.declared.term.Term.{Term}
use Rattle.algebra_model.specs.Operators.{join, merges}
use Rattle.algebra_model.specs.Renaming.{read_row}
use Rattle.algebra_model.specs.Solution.{Solution, is_compatible, merge}
use Rattle.row_core.specs.RowList.{RowList}
use Rattle.dict_core.specs.Dict.{term_at}
use Rattle.sparql_eval.specs.Evaluated.{solutions_of}

module _ {T : Type 0} (same : T → T → Bool) where
  all_fit : (w : ℕ) (ν : Solution T) → is_compatible same (replicate w None) ν ≡ true
  all_fit zero ν = refl
  all_fit (suc w) [] = refl
  all_fit (suc w) (y ∷ ν) = all_fit w ν

  merged : (w : ℕ) (ν : Solution T) → length ν ≡ w → merge (replicate w None) ν ≡ ν
  merged zero ν e = refl
  merged (suc w) [] e = absurd (omega arith)
  merged (suc w) (y ∷ ν) e = ap (λ (r : Solution T). y ∷ r) (merged w ν (omega arith))

  merges_are : (w : ℕ) (B : List (Solution T)) → All (λ ν. length ν ≡ w) B → merges same (replicate w None) B ≡ B
  merges_are w [] h = refl
  merges_are w (ν ∷ B) h =
      let rest = merges_are w B (λ k d low. h (suc k) d (omega arith)) in
      ap (λ (b : Bool). map (merge (replicate w None)) (cond b (ν ∷ filter (is_compatible same (replicate w None)) B) (filter (is_compatible same (replicate w None)) B))) (all_fit w ν)
      ∙ (λ i. merged w ν (h 0 ν (omega arith)) i ∷ rest i)

  pub join_unit : (w : ℕ) (B : List (Solution T)) → All (λ ν. length ν ≡ w) B → join same (replicate w None ∷ []) B ≡ B
  join_unit w B h = append-nil (merges same (replicate w None) B) ∙ merges_are w B h

unit_read : {T : Type 0} (f : ℕ → T) (w : ℕ) → read_row f (replicate w None) ≡ replicate w None
unit_read f zero = refl
unit_read f (suc w) = ap (λ (r : Solution _). None ∷ r) (unit_read f w)

rows_read_wide : {T : Type 0} (f : ℕ → T) (w : ℕ) (A : List (Solution ℕ)) → All (λ μ. length μ ≡ w) A → All (λ μ. length μ ≡ w) (map (read_row f) A)
rows_read_wide f w [] h k d low = absurd (omega arith)
rows_read_wide f w (μ ∷ A) h zero d low = length-map μ _ ∙ h 0 μ (omega arith)
rows_read_wide f w (μ ∷ A) h (suc k) d low = rows_read_wide f w A (λ k d low. h (suc k) d (omega arith)) k d (omega arith)

-- the rows of the right side, read as terms, are the join
pub join_with_unit : (same : Term → Term → Bool) (terms : List Term) (w : ℕ) (left right : RowList) → left.rows ≡ replicate w None ∷ [] → All (λ μ. length μ ≡ w) right.rows
    → solutions_of terms right ≡ join same (solutions_of terms left) (solutions_of terms right)
join_with_unit same terms w left right is wide =
    let unit : solutions_of terms left ≡ replicate w None ∷ [] = ap (map (read_row (term_at terms))) is ∙ ap (λ (r : Solution Term). r ∷ []) (unit_read (term_at terms) w) in
    sym (ap (λ (A : List (Solution Term)). join same A (solutions_of terms right)) unit ∙ join_unit same w (solutions_of terms right) (rows_read_wide (term_at terms) w right.rows wide))

-- ---- one row that binds nothing

none_each : (row : Solution ℕ) → list_all (λ cell. not (is_some cell)) row ≡ true → row ≡ replicate (length row) None
none_each [] h = refl
none_each (None ∷ row) h = ap (λ (r : Solution ℕ). None ∷ r) (none_each row h)
none_each (Some x ∷ row) h = cc

pub unit_rows : (rows : List (Solution ℕ)) (w : ℕ) (row : Solution ℕ) → length rows ≡ 1 → slice_get rows 0 ≡ Some row → length row ≡ w → list_all (λ cell. not (is_some cell)) row ≡ true → rows ≡ replicate w None ∷ []
unit_rows [] w row e g l h = absurd (omega arith)
unit_rows (r ∷ []) w row e g l h =
    let same : r ≡ row = cc in
    ap (λ (x : Solution ℕ). x ∷ []) (same ∙ none_each row h ∙ ap (λ n. replicate n None) l)
unit_rows (r ∷ s ∷ rows) w row e g l h = absurd (omega arith)

-- the cells of a row, one after another
pub open-drop : (row : Solution ℕ) (i : ℕ) → i < length row
    → list_all (λ cell. not (is_some cell)) (drop i row) ≡ (not (is_some (get_or row i None)) && list_all (λ cell. not (is_some cell)) (drop (i + 1) row))
open-drop row i h = ap (list_all (λ (cell : Option ℕ). not (is_some cell))) (drop_more row i None h)

pub open-end : (row : Solution ℕ) (i : ℕ) → length row ≤ i → list_all (λ cell. not (is_some cell)) (drop i row) ≡ true
open-end row i h = ap (list_all (λ (cell : Option ℕ). not (is_some cell))) (drop_all i row h)

-- the converse: a row without bound cells
all_none : (w : ℕ) → list_all (λ (cell : Option ℕ). not (is_some cell)) (replicate w None) ≡ true
all_none zero = refl
all_none (suc w) = all_none w

pub unit_open : (rows : List (Solution ℕ)) (w : ℕ) (row : Solution ℕ) → rows ≡ replicate w None ∷ [] → slice_get rows 0 ≡ Some row → list_all (λ cell. not (is_some cell)) row ≡ true
unit_open rows w row e g =
    let same : replicate w None ≡ row = some_same (sym (ap (λ (r : List (Solution ℕ)). slice_get r 0) e) ∙ g) in
    sym (ap (λ (r : Solution ℕ). list_all (λ cell. not (is_some cell)) r) same) ∙ all_none w
  where
    some_same : {x y : Solution ℕ} → Some x ≡ Some y → x ≡ y
    some_same p = cc
