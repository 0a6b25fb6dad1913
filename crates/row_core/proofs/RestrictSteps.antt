-- The restriction of a row, with one more cell, and of rows in one list of cells, with one more row.
use Rattle.std.proofs.Common.{◌≡◌, ℕ, zero, suc, ◌+◌, ◌*◌, ◌<◌, ◌≤◌, Bool, true, false, List, [], ◌∷◌, ◌++◌, length, get_or, take, drop, set, map, Option, None, refl, sym, ap, ◌∙◌, arith, add-one, append-nil, subst, if◌then◌else◌}
use Rattle.std.proofs.Math.Nat.{suc-mul, zero-mul}
use Rattle.std.proofs.Math.Seq.{take-append_seam, drop-append_seam}
use Rattle.std.proofs.lemmas.List.{take_all, drop_all, drop-drop, length-take, length-drop, length-append, map-append, set-append_left, set-append_right}
use Rattle.std.proofs.lemmas.Slice.{take-put_mid_below, drop-put_mid}
use borrow.Rule.Slice.PartMut.{put_mid}
use Rattle.algebra_model.specs.Solution.{Solution}
use Rattle.algebra_model.specs.Operators.{restrict}
use Rattle.row_core.specs.RowList.{RowList, rows_in, stride}
use Rattle.row_core.proofs.RowSteps.{rows_in-take, width-shown}

keep-suc : (keeps : ℕ → Bool) (μ : Solution ℕ) (i : ℕ) → i < length μ → keeps i ≡ true
    → restrict keeps (take i μ) ++ drop i μ ≡ restrict keeps (take (suc i) μ) ++ drop (suc i) μ
keep-suc keeps [] i h e = absurd (omega arith)
keep-suc keeps (x ∷ μ) zero h e = ap (λ b. (if b then x else None) ∷ μ) (sym e)
keep-suc keeps (x ∷ μ) (suc i) h e = ap (λ r. (if keeps 0 then x else None) ∷ r) (keep-suc (λ k. keeps (suc k)) μ i (omega arith) e)

-- a kept cell stays as it is
pub restrict-keep : (keeps : ℕ → Bool) (μ : Solution ℕ) (i : ℕ) → i < length μ → keeps i ≡ true
    → restrict keeps (take i μ) ++ drop i μ ≡ restrict keeps (take (i + 1) μ) ++ drop (i + 1) μ
restrict-keep keeps μ i h e = rw add-one (keep-suc keeps μ i h e)

unbind-suc : (keeps : ℕ → Bool) (μ : Solution ℕ) (i : ℕ) → i < length μ → keeps i ≡ false
    → set (restrict keeps (take i μ) ++ drop i μ) i None ≡ restrict keeps (take (suc i) μ) ++ drop (suc i) μ
unbind-suc keeps [] i h e = absurd (omega arith)
unbind-suc keeps (x ∷ μ) zero h e = ap (λ b. (if b then x else None) ∷ μ) (sym e)
unbind-suc keeps (x ∷ μ) (suc i) h e = ap (λ r. (if keeps 0 then x else None) ∷ r) (unbind-suc (λ k. keeps (suc k)) μ i (omega arith) e)

-- another cell is unbound
pub restrict-unbind : (keeps : ℕ → Bool) (μ : Solution ℕ) (i : ℕ) → i < length μ → keeps i ≡ false
    → set (restrict keeps (take i μ) ++ drop i μ) i None ≡ restrict keeps (take (i + 1) μ) ++ drop (i + 1) μ
restrict-unbind keeps μ i h e = rw add-one (unbind-suc keeps μ i h e)

pub restrict-whole : (keeps : ℕ → Bool) (μ : Solution ℕ) (i : ℕ) → length μ ≤ i
    → restrict keeps (take i μ) ++ drop i μ ≡ restrict keeps μ
restrict-whole keeps μ i h =
    (λ j. restrict keeps (take_all i μ h j) ++ drop_all i μ h j) ∙ append-nil (restrict keeps μ)

length-restrict : (keeps : ℕ → Bool) (μ : Solution ℕ) → length (restrict keeps μ) ≡ length μ
length-restrict keeps [] = refl
length-restrict keeps (x ∷ μ) = let e = length-restrict (λ k. keeps (suc k)) μ in omega arith

pub length-part : {X : Type 0} (a w : ℕ) (cells : List X) → a + w ≤ length cells → length (take w (drop a cells)) ≡ w
length-part a w cells h =
    let t = length-take w (drop a cells) in
    let d = length-drop a cells in
    omega arith

-- a row whose first cells are restricted
pub length-partly : (keeps : ℕ → Bool) (μ : Solution ℕ) (i : ℕ) → i ≤ length μ
    → length (restrict keeps (take i μ) ++ drop i μ) ≡ length μ
length-partly keeps μ i h =
    let a = length-append (restrict keeps (take i μ)) (drop i μ) in
    let r = length-restrict keeps (take i μ) in
    let t = length-take i μ in
    let d = length-drop i μ in
    omega arith

-- a cell of a part is set
pub set-part : (a w i : ℕ) (cells row : List (Option ℕ)) → a ≤ length cells → i < length row
    → set (put_mid a w cells row) (a + i) None ≡ put_mid a w cells (set row i None)
set-part a w i cells row h low =
    let t = length-take a cells in
    let rest = drop w (drop a cells) in
    set-append_right (take a cells) (row ++ rest) a (a + i) None (omega arith) (omega arith)
    ∙ ap (λ (k : ℕ). take a cells ++ set (row ++ rest) k None) (omega arith)
    ∙ ap (λ (r : List (Option ℕ)). take a cells ++ r) (set-append_left row rest i None low)

-- the restriction of a row of the cells is as long as the row
pub length-restricted : (keeps : ℕ → Bool) (w a k : ℕ) (cells row : List (Option ℕ)) → row ≡ restrict keeps (take k (drop a cells))
    → k ≡ w → a + w ≤ length cells → length row ≡ w
length-restricted keeps w a k cells row e long h =
    let r = ap length e ∙ length-restrict keeps (take k (drop a cells)) in
    let t = length-take k (drop a cells) in
    let d = length-drop a cells in
    omega arith

module _ {X : Type 0} (w s : ℕ) where
  -- one more row
  rows_in-more : (n : ℕ) (cells : List X) → rows_in w s (suc n) cells ≡ rows_in w s n cells ++ take w (drop (n * s) cells) ∷ []
  rows_in-more zero cells = ap (λ k. take w (drop k cells) ∷ []) (sym (zero-mul s))
  rows_in-more (suc n) cells =
      let d : n * s + s ≡ suc n * s = sym (suc-mul n s) in
      ap (λ r. take w cells ∷ r)
      (rows_in-more n (drop s cells)
      ∙ ap (λ (r : List X). rows_in w s n (drop s cells) ++ take w r ∷ []) (drop-drop (n * s) s cells ∙ ap (λ k. drop k cells) (omega arith)))

  rows_in-same : (n : ℕ) (a b : List X) → w ≤ s → take (n * s) a ≡ take (n * s) b → rows_in w s n a ≡ rows_in w s n b
  rows_in-same n a b h e = sym (rows_in-take w s n a h) ∙ ap (rows_in w s n) e ∙ rows_in-take w s n b h

  -- the row from a cell on is replaced
  new_row : (a k : ℕ) (cells row : List X) → a ≤ length cells → length row ≡ w → take w (drop a (put_mid a k cells row)) ≡ row
  new_row a k cells row h e =
      let l : length (take a cells) ≡ a = let t = length-take a cells in omega arith in
      ap (λ m. take w (drop m (put_mid a k cells row))) (sym l)
      ∙ ap (take w) (drop-append_seam (take a cells) (row ++ drop k (drop a cells)))
      ∙ ap (λ m. take m (row ++ drop k (drop a cells))) (sym e)
      ∙ take-append_seam row (drop k (drop a cells))

  -- the row at n is replaced by its restriction, as the rows below n were
  pub rows-mapped : (f : List X → List X) (n a k : ℕ) (was cells row : List X) → w ≤ s → a ≡ n * s → k ≡ w → a ≤ length cells
      → length row ≡ w → row ≡ f (take k (drop a cells)) → drop (n * s) cells ≡ drop (n * s) was
      → rows_in w s n cells ≡ map f (rows_in w s n was)
      → rows_in w s (n + 1) (put_mid a k cells row) ≡ map f (rows_in w s (n + 1) was)
  rows-mapped f n a k was cells row h at long inside wide e rest done =
      let new = put_mid a k cells row in
      let same : take (n * s) new ≡ take (n * s) cells = take-put_mid_below a k cells row (n * s) (omega arith) inside in
      let mapped : row ≡ f (take w (drop (n * s) was)) =
      e ∙ (λ i. f (take (long i) (drop (at i) cells))) ∙ ap (λ (r : List X). f (take w r)) rest in
      rw add-one (
      rows_in-more n new
      ∙ (λ i. (rows_in-same n new cells h same ∙ done) i ++ (ap (λ m. take w (drop m new)) (sym at) ∙ new_row a k cells row inside wide ∙ mapped) i ∷ [])
      ∙ sym (map-append f (rows_in w s n was) (take w (drop (n * s) was) ∷ []))
      ∙ ap (map f) (sym (rows_in-more n was)))

  pub rest-kept : (n a k : ℕ) (was cells row : List X) → w ≤ s → a ≡ n * s → k ≡ w → a ≤ length cells
      → length row ≡ w → drop (n * s) cells ≡ drop (n * s) was
      → drop ((n + 1) * s) (put_mid a k cells row) ≡ drop ((n + 1) * s) was
  rest-kept n a k was cells row h at long inside wide rest =
      let d : (n + 1) * s ≡ n * s + s = ap (λ m. m * s) (add-one n) ∙ suc-mul n s in
      drop-put_mid a k cells row ((n + 1) * s) (omega arith) inside (wide ∙ sym long)
      ∙ ap (λ m. drop m cells) d ∙ sym (drop-drop s (n * s) cells) ∙ ap (drop s) rest ∙ drop-drop s (n * s) was ∙ ap (λ m. drop m was) (sym d)

-- all rows of the view, whose width is that of the kept variables
pub rows-restricted : (w n : ℕ) (cells new : List (Option ℕ)) (kept : List Bool) (v : RowList)
    → record { width = w; rows = rows_in w (stride w) n cells } ≡ v → length kept ≡ v.width
    → rows_in (length kept) (stride (length kept)) n new ≡ map (restrict (λ k. get_or kept k false)) (rows_in (length kept) (stride (length kept)) n cells)
    → rows_in w (stride w) n new ≡ map (restrict (λ k. get_or kept k false)) v.rows
rows-restricted w n cells new kept v is wide e =
    let same : length kept ≡ w = wide ∙ sym (width-shown w n cells v is) in
    subst (λ (x : ℕ). rows_in x (stride x) n new ≡ map (restrict (λ k. get_or kept k false)) (rows_in x (stride x) n cells)) same e
    ∙ ap (λ (r : RowList). map (restrict (λ k. get_or kept k false)) r.rows) is
