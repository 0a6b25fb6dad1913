-- Rows are compared by their first two ranks first.
use Rattle.std.proofs.Common.{◌≡◌, ℕ, suc, ◌+◌, ◌<◌, List, [], ◌∷◌, ◌++◌, length, get_or, take, drop, IsSorted, append_assoc, refl, sym, ap, ◌∙◌, arith, Ordering, Less, Equal, Greater, is_lt, nat_cmp}
use Rattle.std.specs.Cmp.{ranked}
use Rattle.std.specs.Cmp.Lexicographic.{slice_cmp}
use Rattle.std.specs.Ordering.{ordering_then}
use Rattle.std.proofs.lemmas.List.{get_or-map, length-map, map-append}
use Rattle.row_core.specs.RowList.{rows_in}
use Rattle.result_json.specs.declared.ranked_row.RankedRow.{RankedRow}
use Rattle.result_json.specs.RankedRows.{ranks_of}

least : (y : ℕ) → ordering_then (nat_cmp 0 y) Less ≡ Less
least y = by (nat_cmp 0 y) refl
  where
    by : (o : Ordering) → o ≡ nat_cmp 0 y → ordering_then o Less ≡ Less
    by Less e = refl
    by Equal e = refl
    by Greater e = let k : y < 0 = ranked 0 y Greater e in absurd (omega arith)

least_right : (x : ℕ) → ordering_then (nat_cmp x 0) Greater ≡ Greater
least_right x = by (nat_cmp x 0) refl
  where
    by : (o : Ordering) → o ≡ nat_cmp x 0 → ordering_then o Greater ≡ Greater
    by Less e = let k : x < 0 = ranked x 0 Less e in absurd (omega arith)
    by Equal e = refl
    by Greater e = refl

twice : (o s : Ordering) → ordering_then o (ordering_then o s) ≡ ordering_then o s
twice Less s = refl
twice Equal s = refl
twice Greater s = refl

first : (xs ys : List ℕ) → ordering_then (nat_cmp (get_or xs 0 0) (get_or ys 0 0)) (slice_cmp nat_cmp xs ys) ≡ slice_cmp nat_cmp xs ys
first [] [] = refl
first [] (y ∷ ys) = least y
first (x ∷ xs) [] = least_right x
first (x ∷ xs) (y ∷ ys) = twice (nat_cmp x y) (slice_cmp nat_cmp xs ys)

second : (xs ys : List ℕ) → ordering_then (nat_cmp (get_or xs 0 0) (get_or ys 0 0)) (ordering_then (nat_cmp (get_or xs 1 0) (get_or ys 1 0)) (slice_cmp nat_cmp xs ys)) ≡ slice_cmp nat_cmp xs ys
second [] [] = refl
second [] (y ∷ ys) = ap (ordering_then (nat_cmp 0 y)) (least (get_or ys 0 0)) ∙ least y
second (x ∷ xs) [] = ap (ordering_then (nat_cmp x 0)) (least_right (get_or xs 0 0)) ∙ least_right x
second (x ∷ xs) (y ∷ ys) = by (nat_cmp x y)
  where
    by : (o : Ordering) → ordering_then o (ordering_then (nat_cmp (get_or xs 0 0) (get_or ys 0 0)) (ordering_then o (slice_cmp nat_cmp xs ys))) ≡ ordering_then o (slice_cmp nat_cmp xs ys)
    by Less = refl
    by Equal = first xs ys
    by Greater = refl

-- the comparison of rows in the code
abbrev pub row_cmp : RankedRow → RankedRow → Ordering
row_cmp x y = ordering_then (nat_cmp x.first y.first) (ordering_then (nat_cmp x.second y.second) (slice_cmp nat_cmp x.ranks.now y.ranks.now))

row_cmp_is : (x y : RankedRow) → row_cmp x y ≡ slice_cmp nat_cmp x.ranks.now y.ranks.now
row_cmp_is x y = (λ i. ordering_then (nat_cmp (x.first_is i) (y.first_is i)) (ordering_then (nat_cmp (x.second_is i) (y.second_is i)) (slice_cmp nat_cmp x.ranks.now y.ranks.now))) ∙ second x.ranks.now y.ranks.now

pub sorted_ranks : (rows : List RankedRow) → IsSorted row_cmp rows → IsSorted (slice_cmp nat_cmp) (ranks_of rows)
sorted_ranks [] s k d a b = absurd (omega arith)
sorted_ranks (r ∷ rs) s k d a b =
    let l : length (ranks_of (r ∷ rs)) ≡ length (r ∷ rs) = length-map (r ∷ rs) (λ x. x.ranks.now) in
    let x = get_or (r ∷ rs) (k + 1) r in
    let y = get_or (r ∷ rs) k r in
    let ea : get_or (ranks_of (r ∷ rs)) (k + 1) d ≡ x.ranks.now = get_or-map (λ (t : RankedRow). t.ranks.now) (r ∷ rs) (k + 1) r d (omega arith) in
    let eb : get_or (ranks_of (r ∷ rs)) k d ≡ y.ranks.now = get_or-map (λ (t : RankedRow). t.ranks.now) (r ∷ rs) k r d (omega arith) in
    (λ i. is_lt (slice_cmp nat_cmp (ea i) (eb i))) ∙ ap is_lt (sym (row_cmp_is x y)) ∙ s k r (omega arith) (omega arith)

-- one more row is split off
pub split_more : (w n : ℕ) (rest following : List ℕ) (made made' : List RankedRow) (r : RankedRow) (rows : List (List ℕ)) (k : ℕ) → k ≡ suc n → made' ≡ made ++ r ∷ [] → r.ranks.now ≡ take w rest → following ≡ drop w rest → ranks_of made ++ rows_in w w k rest ≡ rows
    → ranks_of made' ++ rows_in w w n following ≡ rows
split_more w n rest following made made' r rows k count items row back e =
    ap (λ (ms : List RankedRow). ranks_of ms ++ rows_in w w n following) items ∙ ap (λ (ks : List (List ℕ)). ks ++ rows_in w w n following) (map-append (λ (x : RankedRow). x.ranks.now) made (r ∷ []))
    ∙ append_assoc (ranks_of made) (r.ranks.now ∷ []) (rows_in w w n following) ∙ (λ i. ranks_of made ++ (row i ∷ rows_in w w n (back i))) ∙ ap (λ (j : ℕ). ranks_of made ++ rows_in w w j rest) (sym count) ∙ e
