-- Ranks keep the order of cells.
use Rattle.std.proofs.Common.{◌≡◌, ℕ, zero, suc, ◌+◌, ◌<◌, ◌≤◌, false, List, [], ◌∷◌, length, get_or, map, slice_get, Option, None, Some, IsSorted, IsPermutation, refl, sym, ap, ◌∙◌, arith, Ordering, Less, Equal, Greater, is_lt, nat_cmp}
use Rattle.std.specs.Cmp.{ranked}
use Rattle.std.specs.Cmp.Lexicographic.{slice_cmp}
use Rattle.std.specs.Option.{option_cmp}
use Rattle.std.specs.Ordering.{ordering_then, ordering_reverse}
use Rattle.std.proofs.lemmas.Bool.{false≢true}
use Rattle.std.proofs.lemmas.Cmp.{tied_itself, nat_cmp_total}
use Rattle.std.proofs.lemmas.List.{get_or-map, length-map}
use Rattle.std.proofs.lemmas.List.Sorted.{IsPermutation-map, sorted_far, ranks_by}
use Rattle.std.proofs.lemmas.Option.{slice_get-get_or, get_or_from_slice_get, slice_get_within}
use Rattle.rdf_core.specs.declared.term.Term.{Term}
use Rattle.rdf_core.specs.declared.term.Term.TheVariants.{Blank}
use Rattle.rdf_core.specs.Order.{term_cmp}
use Rattle.algebra_model.specs.Renaming.{Each}
use Rattle.algebra_model.specs.RowOrder.{cells_cmp}
use Rattle.algebra_model.specs.Sorted.{sorted_list}
use Rattle.algebra_model.proofs.RangeLaws.{Each-IsSameBag}
use Rattle.algebra_model.proofs.RowOrderLaws.{term_cmp_total, terms_equal, cells_cmp_total, cells_equal}
use Rattle.algebra_model.proofs.SortedLaws.{rises_from_sort, sorted_is}
use Rattle.result_json.specs.Ranks.{ranked_cell, ranked_row, IsRank}

pub less_is : (x y : ℕ) → x < y → nat_cmp x y ≡ Less
less_is x y h = by (nat_cmp x y) refl
  where
    by : (o : Ordering) → o ≡ nat_cmp x y → o ≡ Less
    by Less e = refl
    by Equal e = let k : x ≡ y = ranked x y Equal e in absurd (omega arith)
    by Greater e = let k : y < x = ranked x y Greater e in absurd (omega arith)

pub greater_is : (x y : ℕ) → y < x → nat_cmp x y ≡ Greater
greater_is x y h = by (nat_cmp x y) refl
  where
    by : (o : Ordering) → o ≡ nat_cmp x y → o ≡ Greater
    by Less e = let k : x < y = ranked x y Less e in absurd (omega arith)
    by Equal e = let k : x ≡ y = ranked x y Equal e in absurd (omega arith)
    by Greater e = refl

module _ (terms : List Term) (up : IsSorted term_cmp terms) where
  -- the term at a place after the last of x is greater
  rises : (i j : ℕ) (x y : Term) → i < j → slice_get terms i ≡ Some x → slice_get terms j ≡ Some y → ((k : ℕ) → slice_get terms k ≡ slice_get terms i → k ≤ i) → term_cmp x y ≡ Less
  rises i j x y l e f last = by (term_cmp x y) refl
    where
      not_less : is_lt (term_cmp y x) ≡ false
      not_less =
          (λ t. is_lt (term_cmp (sym (get_or_from_slice_get terms j y (Blank []) f) t) (sym (get_or_from_slice_get terms i x (Blank []) e) t)))
          ∙ sorted_far (λ a b. is_lt (term_cmp a b)) (ranks_by term_cmp_total (λ (t : Term). t)) terms up i j (Blank []) (omega arith) (slice_get_within terms j y f)

      by : (o : Ordering) → term_cmp x y ≡ o → o ≡ Less
      by Less p = refl
      by Equal p = let k : j ≤ i = last j (f ∙ ap Some (sym (terms_equal x y p)) ∙ sym e) in absurd (omega arith)
      by Greater p = absurd (false≢true (sym not_less ∙ ap is_lt (term_cmp_total.antisymm y x ∙ ap ordering_reverse p)))

  keeps : (r s : ℕ) → IsRank terms r → IsRank terms s → nat_cmp r s ≡ option_cmp term_cmp (ranked_cell terms r) (ranked_cell terms s)
  keeps zero zero h k = refl
  keeps zero (suc j) h k = less_is zero (suc j) (omega arith) ∙ sym (ap (option_cmp term_cmp None) (slice_get-get_or terms j (Blank []) k.0))
  keeps (suc i) zero h k = greater_is (suc i) zero (omega arith) ∙ sym (ap (λ o. option_cmp term_cmp o None) (slice_get-get_or terms i (Blank []) h.0))
  keeps (suc i) (suc j) h k = by (nat_cmp i j) refl ∙ sym (λ t. option_cmp term_cmp (ex t) (ey t))
    where
      x : Term
      x = get_or terms i (Blank [])

      y : Term
      y = get_or terms j (Blank [])

      ex : slice_get terms i ≡ Some x
      ex = slice_get-get_or terms i (Blank []) h.0

      ey : slice_get terms j ≡ Some y
      ey = slice_get-get_or terms j (Blank []) k.0

      by : (o : Ordering) → o ≡ nat_cmp i j → nat_cmp (suc i) (suc j) ≡ term_cmp x y
      by Less e = let l : i < j = ranked i j Less e in less_is (suc i) (suc j) (omega arith) ∙ sym (rises i j x y l ex ey h.1)
      by Equal e =
          let l : i ≡ j = ranked i j Equal e in
          ap (λ n. nat_cmp (suc i) (suc n)) (sym l) ∙ tied_itself nat_cmp_total (suc i) ∙ sym (ap (λ n. term_cmp x (get_or terms n (Blank []))) (sym l) ∙ tied_itself term_cmp_total x)
      by Greater e =
          let l : j < i = ranked i j Greater e in
          greater_is (suc i) (suc j) (omega arith) ∙ sym (term_cmp_total.antisymm x y ∙ ap ordering_reverse (rises j i y x l ey ex k.1))

  keeps_rows : (xs ys : List ℕ) → Each (IsRank terms) xs → Each (IsRank terms) ys → slice_cmp nat_cmp xs ys ≡ cells_cmp (ranked_row terms xs) (ranked_row terms ys)
  keeps_rows [] [] h k = refl
  keeps_rows [] (y ∷ ys) h k = refl
  keeps_rows (x ∷ xs) [] h k = refl
  keeps_rows (x ∷ xs) (y ∷ ys) h k = λ i. ordering_then (keeps x y h.0 k.0 i) (keeps_rows xs ys h.1 k.1 i)

  Each-get : {X : Type 0} (P : X → Type 0) (xs : List X) (i : ℕ) (d : X) → i < length xs → Each P xs → P (get_or xs i d)
  Each-get P [] i d l h = absurd (omega arith)
  Each-get P (x ∷ xs) zero d l h = h.0
  Each-get P (x ∷ xs) (suc i) d l h = Each-get P xs i d (omega arith) h.1

  -- sorted rows of ranks are sorted rows of terms
  pub sorted_by_ranks : (rows sorted : List (List ℕ)) → Each (Each (IsRank terms)) rows → IsPermutation rows sorted → IsSorted (slice_cmp nat_cmp) sorted → map (ranked_row terms) sorted ≡ sorted_list cells_cmp (map (ranked_row terms) rows)
  sorted_by_ranks rows sorted h p s =
      sorted_is cells_cmp cells_cmp_total cells_equal (map (ranked_row terms) rows) (map (ranked_row terms) sorted) (IsPermutation-map (ranked_row terms) rows sorted p)
      (rises_from_sort cells_cmp cells_cmp_total cells_equal (map (ranked_row terms) sorted) (λ k d a b. at sorted (Each-IsSameBag (Each (IsRank terms)) rows sorted p h) s k d b))
    where
      at : (ks : List (List ℕ)) → Each (Each (IsRank terms)) ks → IsSorted (slice_cmp nat_cmp) ks → (k : ℕ) (d : List (Option Term)) → k + 1 < length (map (ranked_row terms) ks)
          → is_lt (cells_cmp (get_or (map (ranked_row terms) ks) (k + 1) d) (get_or (map (ranked_row terms) ks) k d)) ≡ false
      at ks h s k d b =
          let l : length (map (ranked_row terms) ks) ≡ length ks = length-map ks (ranked_row terms) in
          let x = get_or ks (k + 1) [] in
          let y = get_or ks k [] in
          let ea : get_or (map (ranked_row terms) ks) (k + 1) d ≡ ranked_row terms x = get_or-map (ranked_row terms) ks (k + 1) [] d (omega arith) in
          let eb : get_or (map (ranked_row terms) ks) k d ≡ ranked_row terms y = get_or-map (ranked_row terms) ks k [] d (omega arith) in
          let hx : Each (IsRank terms) x = Each-get (Each (IsRank terms)) ks (k + 1) [] (omega arith) h in
          let hy : Each (IsRank terms) y = Each-get (Each (IsRank terms)) ks k [] (omega arith) h in
          (λ i. is_lt (cells_cmp (ea i) (eb i))) ∙ ap is_lt (sym (keeps_rows x y hx hy)) ∙ s k [] (omega arith) (omega arith)
