-- Rows in one list of cells.
use Rattle.std.proofs.Common.{◌≡◌, ℕ, zero, suc, ◌+◌, ◌-◌, ◌*◌, ◌^◌, ◌<◌, ◌≤◌, List, [], ◌∷◌, ◌++◌, length, take, drop, slice_get, get_or, Option, None, Some, refl, sym, ap, ◌∙◌, arith, subst, All}
use Rattle.std.proofs.Math.Nat.{suc-mul, zero-mul, mul-le-mul_right, le-mul_of_pos_right}
use Rattle.std.proofs.lemmas.List.{take_all, take-take, drop-take, length-take, length-drop, take-append-le, drop-append-le, drop-drop, get_or-take, get_or-drop}
use Rattle.std.proofs.lemmas.Option.{get_or_from_slice_get}
use Rattle.row_core.specs.RowList.{RowList, rows_in, stride, padded}

module _ {X : Type 0} (w s : ℕ) where
  pub length-rows_in : (n : ℕ) (cells : List X) → length (rows_in w s n cells) ≡ n
  length-rows_in zero cells = refl
  length-rows_in (suc n) cells = let e = length-rows_in n (drop s cells) in omega arith

  no_cells : (cells : List X) → length cells ≡ 0 → cells ≡ []
  no_cells [] e = refl
  no_cells (x ∷ cells) e = absurd (omega arith)

  pub rows_in-append : (n m : ℕ) (cells more : List X) → w ≤ s → length cells ≡ n * s
      → rows_in w s (n + m) (cells ++ more) ≡ rows_in w s n cells ++ rows_in w s m more
  rows_in-append zero m cells more h e =
      let z : 0 + m ≡ m = omega arith in
      let n : cells ≡ [] = no_cells cells (e ∙ omega arith) in
      ap (λ k. rows_in w s k (cells ++ more)) z ∙ ap (λ (c : List X). rows_in w s m (c ++ more)) n
  rows_in-append (suc n) m cells more h e =
      let e' : length cells ≡ n * s + s = e ∙ suc-mul n s in
      let l : s ≤ length cells = omega arith in
      let lw : w ≤ length cells = omega arith in
      let z : suc n + m ≡ suc (n + m) = omega arith in
      let d : length (drop s cells) ≡ n * s = let ld = length-drop s cells in omega arith in
      ap (λ k. rows_in w s k (cells ++ more)) z
      ∙ ap (λ (r : List X). r ∷ rows_in w s (n + m) (drop s (cells ++ more))) (take-append-le w cells more lw)
      ∙ ap (λ (r : List X). take w cells ∷ rows_in w s (n + m) r) (drop-append-le s cells more l)
      ∙ ap (λ (r : List (List X)). take w cells ∷ r) (rows_in-append n m (drop s cells) more h d)

  pub get-rows_in : (n i : ℕ) (cells : List X) → i < n
      → slice_get (rows_in w s n cells) i ≡ Some (take w (drop (i * s) cells))
  get-rows_in zero i cells h = absurd (omega arith)
  get-rows_in (suc n) zero cells h = ap (λ k. Some (take w (drop k cells))) (sym (zero-mul s))
  get-rows_in (suc n) (suc i) cells h =
      let d : i * s + s ≡ suc i * s = sym (suc-mul i s) in
      get-rows_in n i (drop s cells) (omega arith)
      ∙ ap (λ (r : List X). Some (take w r)) (drop-drop (i * s) s cells)
      ∙ ap (λ k. Some (take w (drop k cells))) (omega arith)

  -- each row has the given length
  pub wide-rows_in : (n : ℕ) (cells : List X) → n * s ≤ length cells → w ≤ s → All (λ row. length row ≡ w) (rows_in w s n cells)
  wide-rows_in zero cells h l k d low = absurd (omega arith)
  wide-rows_in (suc n) cells h l zero d low =
      let e = suc-mul n s in
      let t = length-take w cells in
      omega arith
  wide-rows_in (suc n) cells h l (suc k) d low =
      let e = suc-mul n s in
      let ld = length-drop s cells in
      wide-rows_in n (drop s cells) (omega arith) l k d (omega arith)

  -- the rows depend only on their own cells
  pub rows_in-take : (n : ℕ) (cells : List X) → w ≤ s → rows_in w s n (take (n * s) cells) ≡ rows_in w s n cells
  rows_in-take zero cells h = refl
  rows_in-take (suc n) cells h =
      let d : suc n * s ≡ s + n * s = suc-mul n s ∙ omega arith in
      (λ i. take w (take (d i) cells) ∷ rows_in w s n (drop s (take (d i) cells)))
      ∙ (λ i. take-take w (s + n * s) cells (omega arith) i ∷ rows_in w s n (drop-take s (n * s) cells i))
      ∙ ap (λ (r : List (List X)). take w cells ∷ r) (rows_in-take n (drop s cells) h)

  -- all rows but the last
  rows_in-fewer : (n : ℕ) (cells : List X) → take n (rows_in w s (suc n) cells) ≡ rows_in w s n cells
  rows_in-fewer zero cells = refl
  rows_in-fewer (suc n) cells = ap (λ (r : List (List X)). take w cells ∷ r) (rows_in-fewer n (drop s cells))

-- a row is within the cells
pub row-inside : (w s n i k : ℕ) → i < n → w ≤ s → k ≡ n * s → i * s + w ≤ k
row-inside w s n i k h l e =
    let m : suc i * s ≤ n * s = mul-le-mul_right s (omega arith) in
    let d : suc i * s ≡ i * s + s = suc-mul i s in
    omega arith

-- as many rows have their cells in one buffer
pub few-rows : (n m s k : ℕ) → 0 < s → k ≡ n * s + m * s → k < 2 ^ 64 → n + m < 2 ^ 64
few-rows n m s k p e low =
    let a = le-mul_of_pos_right n p in
    let b = le-mul_of_pos_right m p in
    omega arith

pub take-padded : (w : ℕ) (row : List (Option ℕ)) → length row ≡ w → take w (padded row) ≡ row
take-padded w [] e = ap (λ k. take k (None ∷ [])) (sym e)
take-padded w (x ∷ row) e = take_all w (x ∷ row) (omega arith)

pub length-padded : (w : ℕ) (row : List (Option ℕ)) → length row ≡ w → length (padded row) ≡ stride w
length-padded w [] e = omega arith
length-padded w (x ∷ row) e = omega arith

module _ (w n : ℕ) (cells : List (Option ℕ)) (v : RowList) (is : record { width = w; rows = rows_in w (stride w) n cells } ≡ v) where
  pub count-shown : n ≡ length v.rows
  count-shown = sym (length-rows_in w (stride w) n cells) ∙ ap (λ (r : RowList). length r.rows) is

  pub width-shown : w ≡ v.width
  width-shown = ap (λ (r : RowList). r.width) is

  pub row-shown : (i : ℕ) → i < length v.rows → slice_get v.rows i ≡ Some (take w (drop (i * stride w) cells))
  row-shown i h =
      let n' = count-shown in
      ap (λ (r : RowList). slice_get r.rows i) (sym is) ∙ get-rows_in w (stride w) n i cells (omega arith)

  -- the row that begins at a cell
  pub row-from : (k i a : ℕ) → v.width ≡ k → i < length v.rows → a ≡ i * stride w → get_or v.rows i [] ≡ take k (drop a cells)
  row-from k i a e h at =
      let n' = width-shown ∙ e in
      get_or_from_slice_get v.rows i (take w (drop (i * stride w) cells)) [] (row-shown i h)
      ∙ (λ j. take (n' j) (drop (sym at j) cells))

  pub cell-shown : (i j : ℕ) → i < length v.rows → j < v.width
      → get_or cells (i * stride w + j) None ≡ get_or (get_or v.rows i []) j None
  cell-shown i j h low =
      let n' = width-shown in
      sym (ap (λ (r : List (Option ℕ)). get_or r j None) (get_or_from_slice_get v.rows i (take w (drop (i * stride w) cells)) [] (row-shown i h))
      ∙ get_or-take w (drop (i * stride w) cells) j None (omega arith)
      ∙ get_or-drop (i * stride w) cells j None)

  pub inside-shown : (i : ℕ) → i < length v.rows → length cells ≡ n * stride w → i * stride w + w ≤ length cells
  inside-shown i h e =
      let n' = count-shown in
      let l : w ≤ stride w = omega arith in
      row-inside w (stride w) n i (length cells) (omega arith) l e

  pub wide-shown : length cells ≡ n * stride w → All (λ row. length row ≡ v.width) v.rows
  wide-shown e =
      let l : w ≤ stride w = omega arith in
      subst (λ (r : RowList). All (λ row. length row ≡ r.width) r.rows) is (wide-rows_in w (stride w) n cells (omega arith) l)

  -- appending one row
  pub rows-pushed : (row all : List (Option ℕ)) → length row ≡ v.width → length cells ≡ n * stride w
      → all ≡ cells ++ padded row → rows_in w (stride w) (n + 1) all ≡ v.rows ++ row ∷ []
  rows-pushed row all e k h =
      let l : w ≤ stride w = omega arith in
      ap (rows_in w (stride w) (n + 1)) h
      ∙ rows_in-append w (stride w) n 1 cells (padded row) l k
      ∙ ap (λ (r : List (Option ℕ)). rows_in w (stride w) n cells ++ r ∷ []) (take-padded w row (e ∙ sym width-shown))
      ∙ ap (λ (r : RowList). r.rows ++ row ∷ []) is

  -- appending the rows of other cells
  pub rows-appended : (w' m : ℕ) (others all : List (Option ℕ)) (u : RowList)
      → record { width = w'; rows = rows_in w' (stride w') m others } ≡ u → u.width ≡ v.width
      → length cells ≡ n * stride w → all ≡ cells ++ others
      → rows_in w (stride w) (n + m) all ≡ v.rows ++ u.rows
  rows-appended w' m others all u its same k h =
      let l : w ≤ stride w = omega arith in
      let e : w' ≡ w = ap (λ (r : RowList). r.width) its ∙ same ∙ sym width-shown in
      ap (rows_in w (stride w) (n + m)) h
      ∙ rows_in-append w (stride w) n m cells others l k
      ∙ ap (λ (x : ℕ). rows_in w (stride w) n cells ++ rows_in x (stride x) m others) (sym e)
      ∙ (λ i. (is i).rows ++ (its i).rows)

  -- removing the last row
  pub rows-popped : (a : ℕ) (all : List (Option ℕ)) → 0 < length v.rows → a ≡ (n - 1) * stride w → all ≡ take a cells
      → rows_in w (stride w) (n - 1) all ≡ take (length v.rows - 1) v.rows
  rows-popped a all some at kept =
      let n' = count-shown in
      let l : w ≤ stride w = omega arith in
      let one : suc (n - 1) ≡ n = omega arith in
      ap (rows_in w (stride w) (n - 1)) (kept ∙ ap (λ k. take k cells) at)
      ∙ rows_in-take w (stride w) (n - 1) cells l
      ∙ sym (rows_in-fewer w (stride w) (n - 1) cells)
      ∙ ap (λ k. take (n - 1) (rows_in w (stride w) k cells)) one
      ∙ (λ i. take (n' i - 1) (is i).rows)
