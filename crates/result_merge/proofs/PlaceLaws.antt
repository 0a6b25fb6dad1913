-- The columns of results have different places.
use Rattle.std.proofs.Common.{◌≡◌, ℕ, suc, ◌+◌, ◌<◌, ◌||◌, false, nat_eq, List, [], ◌∷◌, ◌++◌, get_or, take, length, map, IsPermutation, Equal, refl, sym, ap, subst, ◌∙◌, arith, ne_eqb}
use Rattle.std.specs.Cmp.{IsTotalOrder, ranked}
use Rattle.std.specs.List.{list_any}
use Rattle.std.proofs.lemmas.Bool.Decides.{Decides-eqb}
use Rattle.std.proofs.lemmas.List.{length-take, take_more}
use Rattle.std.proofs.lemmas.Cmp.{nat_cmp_total, on_total, then_total, nat_list_cmp_total}
use Rattle.std.proofs.lemmas.List.Sorted.{IsPermutation-map}
use Rattle.std.proofs.lemmas.Map.Lookups.{exact_bytes}
use Rattle.algebra_model.specs.Bag.{IsWithoutRepeats}
use Rattle.algebra_model.specs.Renaming.{Each}
use Rattle.algebra_model.proofs.RangeLaws.{Each-IsSameBag}
use Rattle.algebra_model.proofs.RowOrderLaws.{then_equal}
use Rattle.algebra_model.proofs.SortedLaws.{sorted_permutation}
use Rattle.result_json.specs.Results.{Column, column_cmp, columns, numbered}
use Rattle.result_json.specs.Texts.{begun, begun_column}
use Rattle.row_merge.proofs.NestLaws.{once-IsPermutation}
use Rattle.result_merge.specs.Reading.{AreColumns, CodeColumn, HavePlaces}

column_cmp_total : IsTotalOrder column_cmp
column_cmp_total = then_total (on_total (λ (c : Column). c.0) nat_list_cmp_total) (on_total (λ (c : Column). c.1) nat_cmp_total)

columns_equal : (x y : Column) → column_cmp x y ≡ Equal → x ≡ y
columns_equal x y e = let a = then_equal _ _ e in λ i. (exact_bytes x.0 y.0 a.0 i, ranked x.1 y.1 Equal (sym a.1) i)

-- the places of columns
abbrev pub places : List Column → List ℕ
places cs = map (λ c. c.1) cs

not_before : (j k : ℕ) (xs : List (List ℕ)) → j < k → list_any (nat_eq j) (places (numbered k xs)) ≡ false
not_before j k [] h = refl
not_before j k (x ∷ xs) h =
    let apart : nat_eq j k ≡ false = ne_eqb j k (λ e. absurd (omega (arith, e))) in
    ap (λ b. b || list_any (nat_eq j) (places (numbered (suc k) xs))) apart ∙ not_before j (suc k) xs (omega arith)

numbered_once : (k : ℕ) (xs : List (List ℕ)) → IsWithoutRepeats nat_eq (places (numbered k xs))
numbered_once k [] = tt
numbered_once k (x ∷ xs) = (not_before k (suc k) xs (omega arith), numbered_once (suc k) xs)

numbered_below : (k n : ℕ) (xs : List (List ℕ)) → k + length xs ≡ n → Each (λ p. p < n) (places (numbered k xs))
numbered_below k n [] h = tt
numbered_below k n (x ∷ xs) h = (omega (arith, h), numbered_below (suc k) n xs (omega (arith, h)))

pub columns_bag : (vars : List (List ℕ)) → IsPermutation (numbered 0 vars) (columns vars)
unfolding columns
columns_bag vars = sorted_permutation column_cmp column_cmp_total columns_equal (numbered 0 vars)

pub bag : (vars : List (List ℕ)) → IsPermutation (places (numbered 0 vars)) (places (columns vars))
bag vars = IsPermutation-map (λ (c : Column). c.1) (numbered 0 vars) (columns vars) (columns_bag vars)

code_places : (made : List CodeColumn) → places (map begun_column made) ≡ map (λ c. c.1) made
code_places [] = refl
code_places (c ∷ made) = ap (λ l. c.1 ∷ l) (code_places made)

begun_places : (cs : List Column) → places (map begun cs) ≡ places cs
begun_places [] = refl
begun_places (c ∷ cs) = ap (λ l. c.1 ∷ l) (begun_places cs)

each_below : (n : ℕ) (made : List CodeColumn) → Each (λ p. p < n) (map (λ c. c.1) made) → Each (λ c. c.1 < n) made
each_below n [] h = tt
each_below n (c ∷ made) h = (h.0, each_below n made h.1)

pub have_places : (vars : List (List ℕ)) (made : List CodeColumn) → AreColumns vars made → HavePlaces (length vars) made
have_places vars made h =
    let same : places (columns vars) ≡ map (λ c. c.1) made = sym (begun_places (columns vars)) ∙ ap places (sym h) ∙ code_places made in
    let once = once-IsPermutation nat_eq Decides-eqb (places (numbered 0 vars)) (places (columns vars)) (bag vars) (numbered_once 0 vars) in
    let below = Each-IsSameBag (λ p. p < length vars) (places (numbered 0 vars)) (places (columns vars)) (bag vars) (numbered_below 0 (length vars) vars (omega arith)) in
    (subst (IsWithoutRepeats nat_eq) same once, each_below (length vars) made (subst (Each (λ p. p < length vars)) same below))

-- ---- one more column

numbered-push : (k : ℕ) (xs : List (List ℕ)) (x : List ℕ) → numbered k (xs ++ x ∷ []) ≡ numbered k xs ++ (x, k + length xs) ∷ []
numbered-push k [] x = let e : k ≡ k + 0 = omega arith in λ j. (x, e j) ∷ []
numbered-push k (y ∷ xs) x =
    let e : suc k + length xs ≡ k + suc (length xs) = omega arith in ap (λ r. (y, k) ∷ r) (numbered-push (suc k) xs x ∙ ap (λ n. numbered (suc k) xs ++ (x, n) ∷ []) e)

pub numbered-more : (xs : List (List ℕ)) (i : ℕ) → i < length xs → numbered 0 (take (i + 1) xs) ≡ numbered 0 (take i xs) ++ (get_or xs i [], i) ∷ []
numbered-more xs i l =
    let e : 0 + length (take i xs) ≡ i = omega (arith, l, length-take i xs) in
    ap (numbered 0) (take_more xs i [] l) ∙ numbered-push 0 (take i xs) (get_or xs i []) ∙ ap (λ n. numbered 0 (take i xs) ++ (get_or xs i [], n) ∷ []) e
