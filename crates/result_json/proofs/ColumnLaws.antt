-- The columns of the results: numbered one after another, and sorted.
use Rattle.std.proofs.Common.{◌≡◌, ℕ, suc, ◌+◌, ◌<◌, false, List, [], ◌∷◌, ◌++◌, length, get_or, take, map, IsPermutation, IsSortedBy, Bor, sym, ap, ◌∙◌, arith, Ordering, Equal, is_lt, nat_cmp}
use Rattle.std.proofs.lemmas.Cmp.{nat_cmp_total, on_total, then_total, nat_list_cmp_total}
use Rattle.std.proofs.lemmas.List.{get_or-map, length-map, length-take, map-append, take_more}
use Rattle.std.proofs.lemmas.List.Sorted.{IsPermutation-map}
use Rattle.std.proofs.lemmas.Map.Lookups.{exact_bytes}
use Rattle.std.specs.Cmp.{IsTotalOrder, ranked}
use Rattle.rdf_core.specs.Order.{bytes_cmp}
use Rattle.algebra_model.specs.Sorted.{sorted_list}
use Rattle.algebra_model.proofs.SortedLaws.{rises_from_sort, sorted_is}
use Rattle.algebra_model.proofs.RowOrderLaws.{then_equal}
use Rattle.std.specs.Ordering.{ordering_then}
use Rattle.result_json.specs.Results.{Column, column_cmp, listed_names, numbered, columns}
use Rattle.result_json.specs.Texts.{column_of}

numbered-push : (k : ℕ) (xs : List (List ℕ)) (x : List ℕ) → numbered k (xs ++ x ∷ []) ≡ numbered k xs ++ (x, k + length xs) ∷ []
numbered-push k [] x = let e : k ≡ k + 0 = omega arith in λ j. (x, e j) ∷ []
numbered-push k (y ∷ xs) x =
    let e : suc k + length xs ≡ k + suc (length xs) = omega arith in ap (λ r. (y, k) ∷ r) (numbered-push (suc k) xs x ∙ ap (λ n. numbered (suc k) xs ++ (x, n) ∷ []) e)

-- with one more variable
pub numbered-names : (names : List (List ℕ)) (listed : List ℕ) (i d : ℕ) → i < length listed
    → numbered 0 (listed_names names (take (i + 1) listed)) ≡ numbered 0 (listed_names names (take i listed)) ++ (get_or names (get_or listed i d) [], i) ∷ []
numbered-names names listed i d l =
    let named = λ (v : ℕ). get_or names v [] in
    let front = listed_names names (take i listed) in
    let e : 0 + length front ≡ i = omega (arith, length-map (take i listed) named, length-take i listed) in
    ap (numbered 0) (ap (map named) (take_more listed i d l) ∙ map-append named (take i listed) (get_or listed i d ∷ [])) ∙ numbered-push 0 front (named (get_or listed i d)) ∙ ap (λ n. numbered 0 front ++ (named (get_or listed i d), n) ∷ []) e

column_cmp_total : IsTotalOrder column_cmp
column_cmp_total = then_total (on_total (λ (c : Column). c.0) nat_list_cmp_total) (on_total (λ (c : Column). c.1) nat_cmp_total)

columns_equal : (x y : Column) → column_cmp x y ≡ Equal → x ≡ y
columns_equal x y e = let a = then_equal _ _ e in λ i. (exact_bytes x.0 y.0 a.0 i, ranked x.1 y.1 Equal (sym a.1) i)

-- the comparison of columns in the code
abbrev pub borrowed_cmp : Bor (List ℕ) × ℕ → Bor (List ℕ) × ℕ → Ordering
borrowed_cmp x y = ordering_then (bytes_cmp x.0.now y.0.now) (nat_cmp x.1 y.1)

pub sorted_columns : (vars : List (List ℕ)) (xs ys : List (Bor (List ℕ) × ℕ)) → map column_of xs ≡ numbered 0 vars → IsPermutation xs ys → IsSortedBy (λ a b. is_lt (borrowed_cmp a b)) ys → map column_of ys ≡ columns vars
unfolding columns
sorted_columns vars xs ys e p s =
    sorted_is column_cmp column_cmp_total columns_equal (map column_of xs) (map column_of ys) (IsPermutation-map column_of xs ys p) (rises_from_sort column_cmp column_cmp_total columns_equal (map column_of ys) (λ k d a b. at ys s k d b))
    ∙ ap (sorted_list column_cmp) e
  where
    at : (ys : List (Bor (List ℕ) × ℕ)) → IsSortedBy (λ a b. is_lt (borrowed_cmp a b)) ys → (k : ℕ) (d : Column) → k + 1 < length (map column_of ys) → is_lt (column_cmp (get_or (map column_of ys) (k + 1) d) (get_or (map column_of ys) k d)) ≡ false
    at [] s k d h = absurd (omega arith)
    at (y ∷ ys) s k d h =
        let l = length-map (y ∷ ys) column_of in
        let a : get_or (map column_of (y ∷ ys)) (k + 1) d ≡ column_of (get_or (y ∷ ys) (k + 1) y) = get_or-map column_of (y ∷ ys) (k + 1) y d (omega arith) in
        let b : get_or (map column_of (y ∷ ys)) k d ≡ column_of (get_or (y ∷ ys) k y) = get_or-map column_of (y ∷ ys) k y d (omega arith) in
        (λ i. is_lt (column_cmp (a i) (b i))) ∙ s k y (omega arith) (omega arith)
