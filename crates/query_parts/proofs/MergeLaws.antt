-- Tables that are merged in groups, and what is true of each of their rows.
use Rattle.std.proofs.Common.{◌≡◌, ℕ, zero, suc, Bool, true, false, List, [], ◌∷◌, ◌++◌, take, drop, map, Option, None, Some, refl, sym, ap, ◌∙◌, arith, append-nil}
use Rattle.std.proofs.lemmas.List.{map-append}
use Rattle.std.proofs.lemmas.List.Concat.{flat_map-append}
use Rattle.rdf_core.proofs.TermLaws.{term_eq}
use Rattle.algebra_model.specs.Pieces.{joined}
use Rattle.algebra_model.specs.Renaming.{Each}
use Rattle.algebra_model.specs.RowOrder.{cells_cmp}
use Rattle.algebra_model.specs.Solution.{same_solution}
use Rattle.algebra_model.specs.Sorted.{limited, slice, sorted_list}
use Rattle.algebra_model.proofs.RangeLaws.{Each-IsSameBag, Each-flat_map, Each-without_repeats}
use Rattle.algebra_model.proofs.RowOrderLaws.{cells_cmp_total, cells_equal}
use Rattle.algebra_model.proofs.SortedLaws.{sorted_permutation}
use Rattle.row_merge.specs.Merged.{IsEnough, Row, Table, kept, merged}
use Rattle.row_merge.proofs.NestLaws.{merges_nest}

-- ---- some tables, merged before the others

-- each table in a group of its own
abbrev singles : List Table → List (List Table)
singles ts = map (λ t. t ∷ []) ts

joined_singles : (ts : List Table) → joined (singles ts) ≡ ts
joined_singles [] = refl
joined_singles (t ∷ ts) = ap (λ l. t ∷ l) (joined_singles ts)

-- a group between tables in groups of their own
abbrev between : List Table → List Table → List Table → List (List Table)
between before group after = singles before ++ group ∷ singles after

joined_between : (before group after : List Table) → joined (between before group after) ≡ before ++ (group ++ after)
joined_between before group after =
    flat_map-append (λ (g : List Table). g) (singles before) (group ∷ singles after)
    ∙ (λ i. joined_singles before i ++ (group ++ joined_singles after i))

enough_itself : (kept : Option ℕ) → IsEnough kept 0 kept
enough_itself None = tt
enough_itself (Some m) = omega arith

module _ (once : Bool) (kept : Option ℕ) where
  abbrev first_merge : List Table → Table
  first_merge = merged once 0 kept

  merged_again : (group : List Table) → first_merge (first_merge group ∷ []) ≡ first_merge group
  merged_again group = merges_nest once 0 kept kept (group ∷ []) (enough_itself kept) ∙ ap first_merge (append-nil group)

  pub merged_before : (offset : ℕ) (limit : Option ℕ) → IsEnough kept offset limit → (before group after : List Table)
      → merged once offset limit (before ++ first_merge group ∷ after) ≡ merged once offset limit (before ++ (group ++ after))
  merged_before offset limit enough before group after =
      let last = merged once offset limit in
      let M = first_merge group in
      let nested = λ (g : List Table). merges_nest once offset limit kept (between before g after) enough in
      let groups = λ (g : List Table). map-append first_merge (singles before) (g ∷ singles after) in
      ap last (sym (joined_between before (M ∷ []) after))
      ∙ sym (nested (M ∷ []))
      ∙ ap last (groups (M ∷ []) ∙ ap (λ t. map first_merge (singles before) ++ t ∷ map first_merge (singles after)) (merged_again group) ∙ sym (groups group))
      ∙ nested group
      ∙ ap last (joined_between before group after)

-- ---- rows

module _ {X : Type 0} (P : X → Type 0) where
  Each-take : (n : ℕ) (xs : List X) → Each P xs → Each P (take n xs)
  Each-take zero xs h = tt
  Each-take (suc n) [] h = tt
  Each-take (suc n) (x ∷ xs) h = (h.0, Each-take n xs h.1)

  Each-drop : (n : ℕ) (xs : List X) → Each P xs → Each P (drop n xs)
  Each-drop zero xs h = h
  Each-drop (suc n) [] h = tt
  Each-drop (suc n) (x ∷ xs) h = Each-drop n xs h.1

  Each-limited : (n : Option ℕ) (xs : List X) → Each P xs → Each P (limited n xs)
  Each-limited None xs h = h
  Each-limited (Some n) xs h = Each-take n xs h

module _ (P : Row → Type 0) where
  -- some rows in ascending order
  pub Each-sorted : (offset : ℕ) (limit : Option ℕ) (rows : List Row) → Each P rows → Each P (slice offset limit (sorted_list cells_cmp rows))
  Each-sorted offset limit rows h =
      let sorted = sorted_list cells_cmp rows in
      Each-limited P limit (drop offset sorted)
      (Each-drop P offset sorted (Each-IsSameBag P rows sorted (sorted_permutation cells_cmp cells_cmp_total cells_equal rows) h))

  Each-kept : (once : Bool) (rows : List Row) → Each P rows → Each P (kept once rows)
  Each-kept true rows h = Each-without_repeats P (same_solution term_eq) rows h
  Each-kept false rows h = h

  pub Each-merged : (once : Bool) (offset : ℕ) (limit : Option ℕ) (tables : List Table) → Each (Each P) tables → Each P (merged once offset limit tables)
  Each-merged once offset limit tables h =
      Each-sorted offset limit (kept once (joined tables)) (Each-kept once (joined tables) (Each-flat_map (Each P) P (λ table. table) (λ table k. k) tables h))
