-- The table of ranks, and the meaning of its ranks.
use Rattle.std.proofs.Common.{◌≡◌, ◌≢◌, ◌⊎◌, ◌++◌, take, Bool, not, ℕ, zero, suc, ◌+◌, ◌<◌, ◌≤◌, true, false, List, [], ◌∷◌, length, get_or, map, set, slice_get, Option, None, Some, option_map, Bor, Contains, IsSorted, IsSortedBy, IsPermutation, All, refl, sym, ap, ◌∙◌, subst, arith, ⊎_elim, Ordering, Less, Equal, Greater, is_lt, nat_cmp}
use Rattle.std.specs.Ordering.{ordering_then}
use Rattle.std.proofs.lemmas.Bool.{cases_eq, cases_lt, false≢true}
use Rattle.std.proofs.lemmas.List.{get_or-map, length-map, length-append, length-set, map-append, get_or_append_left, get_or_push, get_or-set_same, get_or-set_other, get_or_past, get_or_default}
use Rattle.std.proofs.lemmas.List.Elements.{All-more, All-weaker}
use Rattle.std.proofs.lemmas.List.Sorted.{Contains-permutation, IsPermutation-map}
use Rattle.std.proofs.lemmas.Option.{slice_get-get_or, get_or_from_slice_get, slice_get_within, slice_get_past, slice_get-map}
use Rattle.rdf_core.specs.declared.term.Term.{Term}
use Rattle.rdf_core.specs.declared.term.Term.TheVariants.{Blank}
use Rattle.rdf_core.specs.Order.{term_cmp}
use Rattle.algebra_model.specs.Renaming.{Each}
use Rattle.dict_core.specs.Dict.{AreDistinct}
use Rattle.result_json.proofs.SliceLaws.{Each-from_all}
use Rattle.result_json.specs.Ranks.{ranked_cell, Entry, terms_of, numbers_of, HasRank, IsCovered, IsEntry, IsMarked, IsRank, IsRankTable}

-- ---- one more entry in the table

pub table_step : (numbers table : List ℕ) (i : ℕ) → i < length numbers → get_or numbers i 0 < length table → ((j : ℕ) → j < i → HasRank i numbers table j)
    → (j : ℕ) → j < i + 1 → HasRank (i + 1) numbers (set table (get_or numbers i 0) (i + 1)) j
table_step numbers table i inside below h j l = ⊎_elim same other (cases_eq (get_or numbers j 0) (get_or numbers i 0))
  where
    n : ℕ
    n = get_or numbers i 0

    same : get_or numbers j 0 ≡ n → HasRank (i + 1) numbers (set table n (i + 1)) j
    same e =
        let v : get_or (set table n (i + 1)) n 0 ≡ i + 1 = get_or-set_same table n (i + 1) 0 below in
        let w : i + 1 ≡ suc i = omega arith in
        (i, ap (λ k. get_or (set table n (i + 1)) k 0) e ∙ v ∙ w, omega arith, omega arith, sym e)

    other : get_or numbers j 0 ≢ n → HasRank (i + 1) numbers (set table n (i + 1)) j
    other ne =
        let earlier : j < i = by (cases_eq j i) in
        let k = h j earlier in
        (k.0, get_or-set_other table n (get_or numbers j 0) (i + 1) 0 ne ∙ k.1, k.2, omega (arith, k.3), k.4)
      where
        by : (j ≡ i) ⊎ (j ≢ i) → j < i
        by d = ⊎_elim (λ (e : j ≡ i). absurd (ne (ap (λ k. get_or numbers k 0) e))) (λ (e : j ≢ i). omega arith) d

-- ---- the terms of the sorted entries are ascending

then_less : (a b : Ordering) → is_lt (ordering_then a b) ≡ false → is_lt a ≡ false
then_less Less b e = e
then_less Equal b e = refl
then_less Greater b e = refl

-- C is the comparison of terms in the code
module _ (C : Term → Term → Ordering) (is : (x y : Term) → C x y ≡ term_cmp x y) where
  abbrev pub is_entry_less : Entry → Entry → Rattle.std.proofs.Common.Bool
  is_entry_less x y = is_lt (ordering_then (C x.0.now y.0.now) (nat_cmp x.1 y.1))

  pub terms_rise : (entries : List Entry) → IsSortedBy is_entry_less entries → IsSorted term_cmp (terms_of entries)
  terms_rise [] s k d a b = absurd (omega arith)
  terms_rise (e ∷ es) s k d a b =
      let l : length (terms_of (e ∷ es)) ≡ length (e ∷ es) = length-map (e ∷ es) (λ x. x.0.now) in
      let x = get_or (e ∷ es) (k + 1) e in
      let y = get_or (e ∷ es) k e in
      let ea : get_or (terms_of (e ∷ es)) (k + 1) d ≡ x.0.now = get_or-map (λ (t : Entry). t.0.now) (e ∷ es) (k + 1) e d (omega arith) in
      let eb : get_or (terms_of (e ∷ es)) k d ≡ y.0.now = get_or-map (λ (t : Entry). t.0.now) (e ∷ es) k e d (omega arith) in
      (λ i. is_lt (term_cmp (ea i) (eb i))) ∙ ap is_lt (sym (is x.0.now y.0.now)) ∙ then_less (C x.0.now y.0.now) (nat_cmp x.1 y.1) (s k e (omega arith) (omega arith))

-- ---- the meaning of the ranks

same_number : (dict : List Term) → AreDistinct dict → (a b : ℕ) (t : Term) → slice_get dict a ≡ Some t → slice_get dict b ≡ Some t → a ≡ b
same_number dict once a b t e f =
    let la : a < length dict = slice_get_within dict a t e in
    let lb : b < length dict = slice_get_within dict b t f in
    let same : get_or dict a (Blank []) ≡ get_or dict b (Blank []) = get_or_from_slice_get dict a t (Blank []) e ∙ sym (get_or_from_slice_get dict b t (Blank []) f) in
    let p : a < b → ⊥ = λ l. once a b (Blank []) l lb same in
    let q : b < a → ⊥ = λ l. once b a (Blank []) l la (sym same) in
    omega arith

module _ (dict : List Term) (once : AreDistinct dict) (entries : List Entry) (is : All (IsEntry dict) entries) (table : List ℕ) (wide : length table ≡ length dict) (ranks : IsRankTable (numbers_of entries) table) where
  counts : length (numbers_of entries) ≡ length entries
  counts = length-map entries (λ e. e.1)

  terms_count : length (terms_of entries) ≡ length entries
  terms_count = length-map entries (λ e. e.0.now)

  -- the entry at a place
  entry_at : (k : ℕ) → k < length entries → slice_get dict (get_or (numbers_of entries) k 0) ≡ slice_get (terms_of entries) k
  entry_at k l = by entries is l
    where
      by : (es : List Entry) → All (IsEntry dict) es → k < length es → slice_get dict (get_or (numbers_of es) k 0) ≡ slice_get (terms_of es) k
      by [] h l = absurd (omega arith)
      by (e ∷ es) h l =
          let x = get_or (e ∷ es) k e in
          ap (slice_get dict) (get_or-map (λ (t : Entry). t.1) (e ∷ es) k e 0 l) ∙ h k e l ∙ sym (slice_get-map (λ (t : Entry). t.0.now) (e ∷ es) k ∙ ap (option_map (λ (t : Entry). t.0.now)) (slice_get-get_or (e ∷ es) k e l))

  abbrev rank : ℕ → ℕ
  rank n = get_or table n 0

  rank_past : (n : ℕ) → length dict ≤ n → rank n ≡ 0
  rank_past n l = get_or_past table n 0 (omega arith)

  pub cell_is : (n : ℕ) → IsCovered (length dict) (numbers_of entries) n → ranked_cell (terms_of entries) (rank n) ≡ slice_get dict n
  cell_is n covered = ⊎_elim inside past (cases_lt n (length dict))
    where
      past : length dict ≤ n → ranked_cell (terms_of entries) (rank n) ≡ slice_get dict n
      past l = ap (ranked_cell (terms_of entries)) (rank_past n l) ∙ sym (slice_get_past dict n l)

      inside : n < length dict → ranked_cell (terms_of entries) (rank n) ≡ slice_get dict n
      inside l =
          let at = covered l in
          let j = at.0 in
          let ej : get_or (numbers_of entries) j 0 ≡ n = get_or_default (numbers_of entries) j 0 n at.1 ∙ at.2 in
          let r = ranks j at.1 in
          let e : rank n ≡ suc r.0 = ap (λ k. get_or table k 0) (sym ej) ∙ r.1 in
          ap (ranked_cell (terms_of entries)) e ∙ sym (entry_at r.0 (omega (arith, r.3, counts))) ∙ ap (slice_get dict) (r.4 ∙ ej)

  pub rank_is : (n : ℕ) → IsCovered (length dict) (numbers_of entries) n → IsRank (terms_of entries) (rank n)
  rank_is n covered = ⊎_elim inside past (cases_lt n (length dict))
    where
      past : length dict ≤ n → IsRank (terms_of entries) (rank n)
      past l = subst (IsRank (terms_of entries)) (sym (rank_past n l)) tt

      inside : n < length dict → IsRank (terms_of entries) (rank n)
      inside l =
          let at = covered l in
          let j = at.0 in
          let ej : get_or (numbers_of entries) j 0 ≡ n = get_or_default (numbers_of entries) j 0 n at.1 ∙ at.2 in
          let r = ranks j at.1 in
          let i = r.0 in
          let e : rank n ≡ suc i = ap (λ k. get_or table k 0) (sym ej) ∙ r.1 in
          let li : i < length entries = omega (arith, r.3, counts) in
          let ti : i < length (terms_of entries) = omega (arith, terms_count) in
          let x = get_or (terms_of entries) i (Blank []) in
          let ex : slice_get (terms_of entries) i ≡ Some x = slice_get-get_or (terms_of entries) i (Blank []) ti in
          let last = λ (k : ℕ) (f : slice_get (terms_of entries) k ≡ slice_get (terms_of entries) i).
          let lk : k < length (terms_of entries) = slice_get_within (terms_of entries) k x (f ∙ ex) in
          let lk' : k < length entries = omega (arith, terms_count) in
          let same : get_or (numbers_of entries) k 0 ≡ get_or (numbers_of entries) i 0 = same_number dict once (get_or (numbers_of entries) k 0) (get_or (numbers_of entries) i 0) x (entry_at k lk' ∙ f ∙ ex) (entry_at i li ∙ ex) in
          let s = ranks k (omega (arith, counts)) in
          let t : suc s.0 ≡ suc i = sym s.1 ∙ ap (λ m. get_or table m 0) (same ∙ r.4) ∙ r.1 in
          let q : k ≤ i = omega (arith, s.2) in q in
          subst (IsRank (terms_of entries)) (sym e) (ti, last)

  pub cells_are : (codes : List ℕ) → Each (IsCovered (length dict) (numbers_of entries)) codes → map (ranked_cell (terms_of entries)) (map (λ c. get_or table c 0) codes) ≡ map (slice_get dict) codes
  cells_are [] h = refl
  cells_are (c ∷ codes) h = λ i. cell_is c h.0 i ∷ cells_are codes h.1 i

  pub ranks_are : (codes : List ℕ) → Each (IsCovered (length dict) (numbers_of entries)) codes → Each (IsRank (terms_of entries)) (map (λ c. get_or table c 0) codes)
  ranks_are [] h = tt
  ranks_are (c ∷ codes) h = (rank_is c h.0, ranks_are codes h.1)

-- ---- the terms that are marked

pub entries_below : (dict : List Term) (entries : List Entry) → All (IsEntry dict) entries → All (λ e. e.1 < length dict) entries
entries_below dict entries h = All-weaker (IsEntry dict) (λ e. e.1 < length dict) (λ e p. slice_get_within dict e.1 e.0.now p) entries h

pub covered_sorted : (count : ℕ) (entries sorted : List Entry) (codes : List ℕ) → IsPermutation entries sorted → All (IsCovered count (numbers_of entries)) codes → Each (IsCovered count (numbers_of sorted)) codes
covered_sorted count entries sorted codes p h =
    Each-from_all (IsCovered count (numbers_of sorted)) codes (All-weaker (IsCovered count (numbers_of entries)) (IsCovered count (numbers_of sorted))
    (λ n k l. Contains-permutation (numbers_of entries) (numbers_of sorted) n (IsPermutation-map (λ (e : Entry). e.1) entries sorted p) (k l)) codes h)

contains_last : (ns : List ℕ) (n : ℕ) → Contains (ns ++ n ∷ []) n
contains_last ns n = (length ns, omega (arith, length-append ns (n ∷ [])), get_or_push ns n n (length ns) refl)

contains_front : (ns : List ℕ) (m n : ℕ) → Contains ns n → Contains (ns ++ m ∷ []) n
contains_front ns m n c = (c.0, omega (arith, c.1, length-append ns (m ∷ [])), get_or_append_left ns (m ∷ []) n c.0 c.1 ∙ c.2)

-- one more code is marked
pub marked_more : (marks : List Bool) (codes : List ℕ) (i d : ℕ) → i < length codes → All (IsMarked marks) (take i codes) → All (IsMarked (set marks (get_or codes i d) true)) (take (i + 1) codes)
marked_more marks codes i d l h = All-more (IsMarked after) codes i d l (All-weaker (IsMarked marks) (IsMarked after) kept (take i codes) h) here
  where
    m : ℕ
    m = get_or codes i d

    after : List Bool
    after = set marks m true

    here : get_or after m true ≡ true
    here = ⊎_elim (λ (b : m < length marks). get_or-set_same marks m true true b) (λ (b : length marks ≤ m). get_or_past after m true (omega (arith, length-set marks m true))) (cases_lt m (length marks))

    kept : (n : ℕ) → IsMarked marks n → IsMarked after n
    kept n e = ⊎_elim (λ (p : n ≡ m). ap (λ k. get_or after k true) p ∙ here) (λ (p : n ≢ m). get_or-set_other marks m n true true p ∙ e) (cases_eq n m)

-- the marked numbers below i are listed
abbrev pub AreTaken : List Bool → List ℕ → ℕ → Type 0
AreTaken marks ns i = (n : ℕ) → n < i → get_or marks n true ≡ true → Contains ns n

pub taken_more : (marks : List Bool) (entries : List Entry) (i : ℕ) (t : Bor Term) → AreTaken marks (numbers_of entries) i → AreTaken marks (numbers_of (entries ++ (t, i) ∷ [])) (i + 1)
taken_more marks entries i t h n l s = subst (λ ns. Contains ns n) (sym numbers) (⊎_elim earlier last (cases_lt n i))
  where
    numbers : numbers_of (entries ++ (t, i) ∷ []) ≡ numbers_of entries ++ i ∷ []
    numbers = map-append (λ (x : Entry). x.1) entries ((t, i) ∷ [])

    earlier : n < i → Contains (numbers_of entries ++ i ∷ []) n
    earlier b = contains_front (numbers_of entries) i n (h n b s)

    last : i ≤ n → Contains (numbers_of entries ++ i ∷ []) n
    last b = let e : i ≡ n = omega arith in subst (λ k. Contains (numbers_of entries ++ i ∷ []) k) e (contains_last (numbers_of entries) i)

pub taken_past : (marks : List Bool) (ns : List ℕ) (i : ℕ) → get_or marks i true ≡ false → AreTaken marks ns i → AreTaken marks ns (i + 1)
taken_past marks ns i f h n l s = ⊎_elim (λ (b : n < i). h n b s) not_here (cases_lt n i)
  where
    not_here : i ≤ n → Contains ns n
    not_here b = let e : i ≡ n = omega arith in absurd (false≢true (sym f ∙ ap (λ k. get_or marks k true) e ∙ s))

pub covered_all : (count : ℕ) (marks : List Bool) (ns codes : List ℕ) → All (IsMarked marks) codes → AreTaken marks ns count → All (IsCovered count ns) codes
covered_all count marks ns codes h taken = All-weaker (IsMarked marks) (IsCovered count ns) (λ n m b. taken n b m) codes h
