-- Rows that are sorted, and of which one of each is left.
use Rattle.std.proofs.Common.{◌≡◌, ℕ, zero, suc, ◌+◌, ◌<◌, ◌&&◌, Bool, true, false, cond, List, [], ◌∷◌, ◌++◌, length, get_or, map, Option, IsPermutation, IsSortedBy, Ordering, Less, Equal, Greater, is_lt, nat_cmp, nat_eq, refl, sym, ap, subst, ◌∙◌, ⊎_elim, arith}
use Rattle.std.specs.List.{dedup, dedup_from}
use Rattle.std.specs.List.Retain.{DiffersFromLast, IsFiltered}
use Rattle.std.specs.Option.{option_cmp, option_eq}
use Rattle.std.proofs.lemmas.List.Filters.{dedup_is}
use Rattle.std.specs.Ordering.{ordering_then}
use Rattle.std.specs.Cmp.Lexicographic.{pointwise, slice_cmp}
use Rattle.std.proofs.lemmas.Bool.{false≢true}
use Rattle.std.proofs.lemmas.List.{get_or-map, length-map}
use Rattle.std.proofs.lemmas.List.Sorted.{IsPermutation-map, IsPermutation-sym}
use Rattle.rdf_core.proofs.TermLaws.{term_eq, term_decides}
use Rattle.algebra_model.specs.Operators.{distinct}
use Rattle.algebra_model.specs.Renaming.{Each}
use Rattle.algebra_model.specs.RowOrder.{cells_cmp}
use Rattle.algebra_model.specs.Solution.{same_solution}
use Rattle.algebra_model.specs.Sorted.{IsRising, sorted_list}
use Rattle.algebra_model.proofs.BgpLaws.{solution_decides}
use Rattle.algebra_model.proofs.RepeatLaws.{without_repeats-IsPermutation}
use Rattle.algebra_model.proofs.RowOrderLaws.{cells_cmp_total, cells_equal, derived, derived-is}
use Rattle.algebra_model.proofs.SortedLaws.{rises_from_sort, sorted_is, sorted_of_bag, sorted_permutation, sorted_rises}
use Rattle.row_merge.specs.Merged.{Row, kept}
use Rattle.row_merge.proofs.OnceLaws.{sorted_once}
use Rattle.result_merge.specs.Reading.{HasText, ReadRow, rows_of}

-- ---- in order

-- the comparison of rows in the code
abbrev pub read_cmp : ReadRow → ReadRow → Ordering
read_cmp x y = ordering_then (slice_cmp (option_cmp derived) x.0.items y.0.items) (slice_cmp nat_cmp x.1.now y.1.now)

cells_are : (xs ys : Row) → slice_cmp (option_cmp derived) xs ys ≡ cells_cmp xs ys
cells_are xs ys = λ i. slice_cmp (option_cmp (λ x y. derived-is x y i)) xs ys

not_less : (r s : Ordering) → is_lt (ordering_then r s) ≡ false → is_lt r ≡ false
not_less Less s e = e
not_less Equal s e = refl
not_less Greater s e = refl

pub sorted_rows_of : (xs ys : List ReadRow) → IsPermutation xs ys → IsSortedBy (λ a b. is_lt (read_cmp a b)) ys → rows_of ys ≡ sorted_list cells_cmp (rows_of xs)
sorted_rows_of xs ys p s =
    sorted_is cells_cmp cells_cmp_total cells_equal (rows_of xs) (rows_of ys) (IsPermutation-map (λ (r : ReadRow). r.0.items) xs ys p)
    (rises_from_sort cells_cmp cells_cmp_total cells_equal (rows_of ys) (λ k d a b. at ys s k d b))
  where
    at : (ys : List ReadRow) → IsSortedBy (λ a b. is_lt (read_cmp a b)) ys → (k : ℕ) (d : Row) → k + 1 < length (rows_of ys) → is_lt (cells_cmp (get_or (rows_of ys) (k + 1) d) (get_or (rows_of ys) k d)) ≡ false
    at [] s k d h = absurd (omega arith)
    at (y ∷ ys) s k d h =
        let l = length-map (y ∷ ys) (λ (r : ReadRow). r.0.items) in
        let a : get_or (rows_of (y ∷ ys)) (k + 1) d ≡ (get_or (y ∷ ys) (k + 1) y).0.items = get_or-map (λ (r : ReadRow). r.0.items) (y ∷ ys) (k + 1) y d (omega arith) in
        let b : get_or (rows_of (y ∷ ys)) k d ≡ (get_or (y ∷ ys) k y).0.items = get_or-map (λ (r : ReadRow). r.0.items) (y ∷ ys) k y d (omega arith) in
        let m = get_or (y ∷ ys) (k + 1) y in
        let n = get_or (y ∷ ys) k y in
        (λ i. is_lt (cells_cmp (a i) (b i))) ∙ ap is_lt (sym (cells_are m.0.items n.0.items))
        ∙ not_less (slice_cmp (option_cmp derived) m.0.items n.0.items) (slice_cmp nat_cmp m.1.now n.1.now) (s k y (omega arith) (omega arith))

-- ---- one of each

-- the equality of rows in the code
abbrev pub read_eq : ReadRow → ReadRow → Bool
read_eq x y = pointwise (option_eq term_eq) x.0.items y.0.items && pointwise nat_eq x.1.now y.1.now

itself : (xs : List ℕ) → pointwise nat_eq xs xs ≡ true
itself [] = refl
itself (x ∷ xs) = λ i. Rattle.std.proofs.Common.eq-eqb x x refl i && itself xs i

module _ (text : Row → List ℕ) where
  same_rows : (x y : ReadRow) → HasText text x → HasText text y → read_eq x y ≡ same_solution term_eq x.0.items y.0.items
  same_rows x y a b = by (same_solution term_eq x.0.items y.0.items) refl
    where
      texts_equal : (xs ys : List ℕ) → xs ≡ ys → pointwise nat_eq xs ys ≡ true
      texts_equal xs ys e = subst (λ l. pointwise nat_eq xs l ≡ true) e (itself xs)

      by : (c : Bool) → same_solution term_eq x.0.items y.0.items ≡ c → (c && pointwise nat_eq x.1.now y.1.now) ≡ c
      by true e = texts_equal x.1.now y.1.now (a ∙ ap text ((solution_decides term_eq term_decides x.0.items y.0.items).0 e) ∙ sym b)
      by false e = refl

  dedup_from_rows : (y : ReadRow) (xs : List ReadRow) → HasText text y → Each (HasText text) xs → rows_of (dedup_from read_eq y xs) ≡ dedup_from (same_solution term_eq) y.0.items (rows_of xs)
  dedup_from_rows y [] h k = refl
  dedup_from_rows y (x ∷ xs) h k = by (read_eq x y) (same_solution term_eq x.0.items y.0.items) (same_rows x y k.0 h) (dedup_from_rows y xs h k.1) (dedup_from_rows x xs k.0 k.1)
    where
      by : (a b : Bool) → a ≡ b → rows_of (dedup_from read_eq y xs) ≡ dedup_from (same_solution term_eq) y.0.items (rows_of xs) → rows_of (dedup_from read_eq x xs) ≡ dedup_from (same_solution term_eq) x.0.items (rows_of xs)
          → rows_of (cond a (dedup_from read_eq y xs) (y ∷ dedup_from read_eq x xs)) ≡ cond b (dedup_from (same_solution term_eq) y.0.items (rows_of xs)) (y.0.items ∷ dedup_from (same_solution term_eq) x.0.items (rows_of xs))
      by true true e i j = i
      by true false e i j = absurd (false≢true (sym e))
      by false true e i j = absurd (false≢true e)
      by false false e i j = ap (λ l. y.0.items ∷ l) j

  dedup_rows : (xs : List ReadRow) → Each (HasText text) xs → rows_of (dedup read_eq xs) ≡ dedup (same_solution term_eq) (rows_of xs)
  dedup_rows [] h = refl
  dedup_rows (x ∷ xs) h = dedup_from_rows x xs h.0 h.1

  dedup_from_texts : (y : ReadRow) (xs : List ReadRow) → HasText text y → Each (HasText text) xs → Each (HasText text) (dedup_from read_eq y xs)
  dedup_from_texts y [] h k = (h, tt)
  dedup_from_texts y (x ∷ xs) h k = by (read_eq x y) (dedup_from_texts y xs h k.1) (dedup_from_texts x xs k.0 k.1)
    where
      by : (a : Bool) → Each (HasText text) (dedup_from read_eq y xs) → Each (HasText text) (dedup_from read_eq x xs) → Each (HasText text) (cond a (dedup_from read_eq y xs) (y ∷ dedup_from read_eq x xs))
      by true i j = i
      by false i j = (h, j)

  pub dedup_texts : (xs : List ReadRow) → Each (HasText text) xs → Each (HasText text) (dedup read_eq xs)
  dedup_texts [] h = tt
  dedup_texts (x ∷ xs) h = dedup_from_texts x xs h.0 h.1

  -- sorted rows, of which one of each is left
  pub once_rows_of : (xs ys : List ReadRow) → Each (HasText text) ys → rows_of ys ≡ sorted_list cells_cmp (rows_of xs) → rows_of (dedup read_eq ys) ≡ sorted_list cells_cmp (kept true (rows_of xs))
  once_rows_of xs ys h e =
      let S = sorted_list cells_cmp (rows_of xs) in
      let rising : IsRising cells_cmp S = sorted_rises cells_cmp cells_cmp_total cells_equal (rows_of xs) in
      let bag = sorted_permutation cells_cmp cells_cmp_total cells_equal (rows_of xs) in
      dedup_rows ys h ∙ ap (dedup (same_solution term_eq)) e ∙ sorted_once S rising
      ∙ sorted_of_bag cells_cmp cells_cmp_total cells_equal (distinct term_eq S) (distinct term_eq (rows_of xs))
      (without_repeats-IsPermutation (same_solution term_eq) (solution_decides term_eq term_decides) S (rows_of xs) (IsPermutation-sym (rows_of xs) S bag))

-- what `dedup` leaves of sorted rows
pub left_one : (text : Row → List ℕ) (all old new : List ReadRow) → IsFiltered (DiffersFromLast read_eq) [] old new → Each (HasText text) old → rows_of old ≡ sorted_list cells_cmp (rows_of all)
    → (rows_of new ≡ sorted_list cells_cmp (kept true (rows_of all))) × Each (HasText text) new
left_one text all old new f h e =
    let is : new ≡ dedup read_eq old = dedup_is read_eq old new f in
    (ap rows_of is ∙ once_rows_of text all old h e, subst (Each (HasText text)) (sym is) (dedup_texts text old h))
