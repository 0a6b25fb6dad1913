-- Rows of parts may be merged in groups.
use Rattle.std.proofs.Common.{◌≡◌, ℕ, zero, suc, ◌+◌, ◌<◌, ◌≤◌, Bool, true, false, cond, ◌||◌, List, [], ◌∷◌, ◌++◌, take, drop, map, Option, None, Some, Decides, IsPermutation, count_by, refl, sym, ap, ◌∙◌, subst, ⊎_elim, arith}
use Rattle.std.specs.List.{list_any}
use Rattle.std.proofs.lemmas.Bool.{cases_Bool, false≢true}
use Rattle.std.proofs.lemmas.List.{drop-take, take-take}
use Rattle.std.proofs.lemmas.List.Concat.{flat_map-append}
use Rattle.std.proofs.lemmas.List.Folds.{list_any-append}
use Rattle.std.proofs.lemmas.List.Sorted.{IsPermutation-refl, IsPermutation-append, IsPermutation-trans, list_any-IsPermutation}
use Rattle.rdf_core.proofs.TermLaws.{term_eq, term_decides}
use Rattle.algebra_model.specs.Bag.{IsWithoutRepeats, without_repeats}
use Rattle.algebra_model.specs.Solution.{same_solution}
use Rattle.algebra_model.specs.Pieces.{joined}
use Rattle.algebra_model.specs.RowOrder.{cells_cmp}
use Rattle.algebra_model.specs.Sorted.{IsRising, IsUpTo, limited, slice, sorted_list}
use Rattle.algebra_model.proofs.BagLaws.{count_by-cons, count_by-yes, count_by-IsPermutation, permutation_from_counts}
use Rattle.algebra_model.proofs.BgpLaws.{solution_decides}
use Rattle.algebra_model.proofs.RepeatLaws.{IsWithoutRepeats-without_repeats, any-without_repeats_is, count_by-without_repeats}
use Rattle.algebra_model.proofs.RowOrderLaws.{cells_cmp_total, cells_equal}
use Rattle.algebra_model.proofs.SolveLaws.{count_by_one}
use Rattle.algebra_model.proofs.SortedLaws.{sorted_permutation, sorted_rises, sorted_is}
use Rattle.row_merge.specs.Merged.{Row, Table, kept, merged}
use Rattle.row_merge.specs.Laws.{MergesNest}
use Rattle.row_merge.proofs.ZipLaws.{zipped, take-zipped, rises-zipped, any-zipped, once-zipped, permutation-zipped}

-- ---- lists without repeats

module _ {X : Type 0} (same : X → X → Bool) (decides : (x y : X) → Decides (same x y) (x ≡ y)) where
  some_counted : (p : X → Bool) (xs : List X) → list_any p xs ≡ true → 0 < count_by p xs
  some_counted p [] e = absurd (false≢true e)
  some_counted p (x ∷ xs) e =
      let c = count_by-cons p x xs in
      ⊎_elim
      (λ (t : p x ≡ true). let d = count_by-yes p x xs t in omega arith)
      (λ (t : p x ≡ false). let d = some_counted p xs (sym (ap (λ b. b || list_any p xs) t) ∙ e) in omega (arith, c, d))
      (cases_Bool (p x))

  itself : (x : X) → same x x ≡ true
  itself x = (decides x x).1 refl

  pub once_from_counts : (xs : List X) → ((z : X) → count_by (same z) xs ≤ 1) → IsWithoutRepeats same xs
  once_from_counts [] h = tt
  once_from_counts (x ∷ xs) h = (
    ⊎_elim
        (λ (t : list_any (same x) xs ≡ true). let a = some_counted (same x) xs t in let b = count_by-yes (same x) x xs (itself x) in let c = h x in absurd (omega (arith, a, b, c)))
        (λ (t : list_any (same x) xs ≡ false). t)
        (cases_Bool (list_any (same x) xs)),
    once_from_counts xs (λ z. let a = count_by-cons (same z) x xs in let b = h z in omega (arith, a, b)),
  )

  counted_once : (z : X) (xs : List X) → IsWithoutRepeats same xs → count_by (same z) xs ≡ cond (list_any (same z) xs) 1 0
  counted_once z xs h = count_by_one same (same z) (λ x y p q. (decides x y).1 (sym ((decides z x).0 p) ∙ (decides z y).0 q)) xs h

  at_most : (b : Bool) → cond {A = ℕ} b 1 0 ≤ 1
  at_most true = omega arith
  at_most false = omega arith

  pub once-IsPermutation : (xs ys : List X) → IsPermutation xs ys → IsWithoutRepeats same xs → IsWithoutRepeats same ys
  once-IsPermutation xs ys p h = once_from_counts ys
      (λ z. let a = count_by-IsPermutation (same z) xs ys p in let b = counted_once z xs h in let c = at_most (list_any (same z) xs) in omega (arith, a, b, c))

  -- a list without repeats is its own list without repeats, in some order
  pub once_already : (xs : List X) → IsWithoutRepeats same xs → IsPermutation (without_repeats same xs) xs
  once_already xs h = permutation_from_counts same decides (without_repeats same xs) xs
      (λ z. count_by-without_repeats same decides z xs ∙ sym (counted_once z xs h))

once-take : {X : Type 0} (same : X → X → Bool) (n : ℕ) (xs : List X) → IsWithoutRepeats same xs → IsWithoutRepeats same (take n xs)
once-take same zero xs h = tt
once-take same (suc n) [] h = tt
once-take {X} same (suc n) (x ∷ xs) h = (none n xs h.0, once-take same n xs h.1)
  where
    parts : (b c d : Bool) → (b || c) ≡ false → (c ≡ false → d ≡ false) → (b || d) ≡ false
    parts true c d e h = e
    parts false c d e h = h e

    none : (n : ℕ) (ys : List X) → list_any (same x) ys ≡ false → list_any (same x) (take n ys) ≡ false
    none zero ys e = refl
    none (suc n) [] e = refl
    none (suc n) (y ∷ ys) e = parts (same x y) (list_any (same x) ys) (list_any (same x) (take n ys)) e (none n ys)

-- ---- sorted rows, each once or not

row_decides : (x y : Row) → Decides (same_solution term_eq x y) (x ≡ y)
row_decides = solution_decides term_eq term_decides

upto-take : (n : ℕ) (x : Row) (xs : List Row) → IsUpTo cells_cmp x xs → IsUpTo cells_cmp x (take n xs)
upto-take zero x xs h = tt
upto-take (suc n) x [] h = tt
upto-take (suc n) x (y ∷ xs) h = (h.0, upto-take n x xs h.1)

rises-take : (n : ℕ) (xs : List Row) → IsRising cells_cmp xs → IsRising cells_cmp (take n xs)
rises-take zero xs h = tt
rises-take (suc n) [] h = tt
rises-take (suc n) (x ∷ xs) h = (upto-take n x xs h.0, rises-take n xs h.1)

-- the rows in ascending order, each once or not
abbrev S : Bool → List Row → List Row
S once rows = sorted_list cells_cmp (kept once rows)

abbrev Z : Bool → List Row → List Row → List Row
Z once = zipped cells_cmp once

S-permutation : (once : Bool) (rows : List Row) → IsPermutation (kept once rows) (S once rows)
S-permutation once rows = sorted_permutation cells_cmp cells_cmp_total cells_equal (kept once rows)

S-rises : (once : Bool) (rows : List Row) → IsRising cells_cmp (S once rows)
S-rises once rows = sorted_rises cells_cmp cells_cmp_total cells_equal (kept once rows)

S-once : (rows : List Row) → IsWithoutRepeats (same_solution term_eq) (S true rows)
S-once rows = once-IsPermutation (same_solution term_eq) row_decides (kept true rows) (S true rows) (S-permutation true rows) (IsWithoutRepeats-without_repeats (same_solution term_eq) rows)

S-any : (z : Row) (rows : List Row) → list_any (same_solution term_eq z) (S true rows) ≡ list_any (same_solution term_eq z) rows
S-any z rows =
    sym (list_any-IsPermutation (same_solution term_eq z) (kept true rows) (S true rows) (S-permutation true rows))
    ∙ any-without_repeats_is (same_solution term_eq) row_decides z rows

-- the sorted rows of two lists are those of each, merged
seam : (once : Bool) (xs ys : List Row) → S once (xs ++ ys) ≡ Z once (S once xs) (S once ys)
seam false xs ys =
    sym (sorted_is cells_cmp cells_cmp_total cells_equal (xs ++ ys) (Z false (S false xs) (S false ys))
    (IsPermutation-trans (xs ++ ys) (S false xs ++ S false ys) (Z false (S false xs) (S false ys))
    (IsPermutation-append xs (S false xs) ys (S false ys) (S-permutation false xs) (S-permutation false ys))
    (permutation-zipped cells_cmp false cells_cmp_total cells_equal (same_solution term_eq) row_decides refl (S false xs) (S false ys)))
    (rises-zipped cells_cmp false cells_cmp_total cells_equal (S false xs) (S false ys) (S-rises false xs) (S-rises false ys)))
seam true xs ys =
    let A = S true xs in
    let B = S true ys in
    let rises = rises-zipped cells_cmp true cells_cmp_total cells_equal A B (S-rises true xs) (S-rises true ys) in
    let alone = once-zipped cells_cmp true cells_cmp_total cells_equal (same_solution term_eq) row_decides refl A B (S-rises true xs) (S-rises true ys) (S-once xs) (S-once ys) in
    let members = λ (z : Row).
    list_any-append (same_solution term_eq z) xs ys
    ∙ (λ i. sym (S-any z xs) i || sym (S-any z ys) i)
    ∙ sym (any-zipped cells_cmp true cells_cmp_total cells_equal (same_solution term_eq) row_decides (same_solution term_eq z) A B) in
    let bag = permutation_from_counts (same_solution term_eq) row_decides (kept true (xs ++ ys)) (Z true A B)
    (λ z. count_by-without_repeats (same_solution term_eq) row_decides z (xs ++ ys) ∙ ap (λ (b : Bool). cond {A = ℕ} b 1 0) (members z)
    ∙ sym (counted_once (same_solution term_eq) row_decides z (Z true A B) alone)) in
    sym (sorted_is cells_cmp cells_cmp_total cells_equal (kept true (xs ++ ys)) (Z true A B) bag rises)

-- ---- the first rows

kept_already : (once : Bool) (rows : List Row) → (once ≡ true → IsWithoutRepeats (same_solution term_eq) rows) → IsPermutation (kept once rows) rows
kept_already false rows h = IsPermutation-refl rows
kept_already true rows h = once_already (same_solution term_eq) row_decides rows (h refl)

-- sorted rows, or the first of them, are sorted already
settled : (once : Bool) (rows : List Row) → IsRising cells_cmp rows → (once ≡ true → IsWithoutRepeats (same_solution term_eq) rows) → S once rows ≡ rows
settled once rows r h = sym (sorted_is cells_cmp cells_cmp_total cells_equal (kept once rows) rows (kept_already once rows h) r)

S-once_if : (once : Bool) (rows : List Row) → once ≡ true → IsWithoutRepeats (same_solution term_eq) (S once rows)
S-once_if once rows t = subst (λ b. IsWithoutRepeats (same_solution term_eq) (S b rows)) (sym t) (S-once rows)

first_settled : (once : Bool) (m : Option ℕ) (rows : List Row) → S once (limited m (S once rows)) ≡ limited m (S once rows)
first_settled once None rows = settled once (S once rows) (S-rises once rows) (S-once_if once rows)
first_settled once (Some n) rows =
    settled once (take n (S once rows)) (rises-take n (S once rows) (S-rises once rows))
    (λ t. once-take (same_solution term_eq) n (S once rows) (S-once_if once rows t))

first-zipped : (once : Bool) (m : Option ℕ) (xs ys : List Row) → limited m (Z once xs ys) ≡ limited m (Z once (limited m xs) (limited m ys))
first-zipped once None xs ys = refl
first-zipped once (Some n) xs ys = take-zipped cells_cmp once n n n (omega arith) (omega arith) xs ys

first-first : (m : Option ℕ) (xs : List Row) → limited m (limited m xs) ≡ limited m xs
first-first None xs = refl
first-first (Some n) xs = take-take n n xs (omega arith)

-- the first rows of a group
abbrev firsts : Bool → Option ℕ → List Table → List Row
firsts once m tables = limited m (S once (joined tables))

in_groups : (once : Bool) (m : Option ℕ) (groups : List (List Table)) → limited m (S once (joined (map (firsts once m) groups))) ≡ limited m (S once (joined (joined groups)))
in_groups once m [] = refl
in_groups once m (g ∷ gs) =
    let J = joined (map (firsts once m) gs) in
    let F = firsts once m g in
    let G = joined g in
    let rest = joined (joined gs) in
    ap (limited m) (seam once F J)
    ∙ ap (λ l. limited m (Z once l (S once J))) (first_settled once m G)
    ∙ first-zipped once m F (S once J)
    ∙ (λ i. limited m (Z once (first-first m (S once G) i) (in_groups once m gs i)))
    ∙ sym (first-zipped once m (S once G) (S once rest))
    ∙ ap (limited m) (sym (seam once G rest))
    ∙ ap (λ l. limited m (S once l)) (sym (flat_map-append (λ table. table) g (joined gs)))

-- the first rows of enough rows
sliced : (offset n m : ℕ) → offset + n ≤ m → (xs : List Row) → take n (drop offset xs) ≡ drop offset (take (offset + n) (take m xs))
sliced offset n m h xs = sym (drop-take offset n xs) ∙ ap (drop offset) (sym (take-take (offset + n) m xs h))

pub merges_nest : MergesNest
merges_nest once offset limit None groups h = ap (slice offset limit) (in_groups once None groups)
merges_nest once offset None (Some m) groups h = absurd h
merges_nest once offset (Some n) (Some m) groups h =
    sliced offset n m h (S once (joined (map (firsts once (Some m)) groups)))
    ∙ ap (λ l. drop offset (take (offset + n) l)) (in_groups once (Some m) groups)
    ∙ sym (sliced offset n m h (S once (joined (joined groups))))
