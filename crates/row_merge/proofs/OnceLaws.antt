-- Sorted rows without the repeats of neighbours are the sorted distinct rows.
use Rattle.std.proofs.Common.{◌≡◌, Bool, true, false, cond, ◌||◌, List, [], ◌∷◌, IsPermutation, count_by, refl, sym, ap, ◌∙◌, ⊎_elim, Ordering, Less, Equal, Greater, is_eq, is_gt}
use Rattle.std.specs.List.{dedup, dedup_from, list_any}
use Rattle.std.proofs.lemmas.Bool.{cases_Bool, false≢true}
use Rattle.rdf_core.proofs.TermLaws.{term_eq, term_decides}
use Rattle.algebra_model.specs.Bag.{IsWithoutRepeats}
use Rattle.algebra_model.specs.Operators.{distinct}
use Rattle.algebra_model.specs.RowOrder.{cells_cmp}
use Rattle.algebra_model.specs.Solution.{same_solution}
use Rattle.algebra_model.specs.Sorted.{IsRising, IsUpTo, sorted_list}
use Rattle.algebra_model.proofs.BagLaws.{permutation_from_counts}
use Rattle.algebra_model.proofs.BgpLaws.{solution_decides}
use Rattle.algebra_model.proofs.RepeatLaws.{count_by-without_repeats}
use Rattle.algebra_model.proofs.RowOrderLaws.{cells_cmp_total, cells_equal}
use Rattle.algebra_model.proofs.SolveLaws.{count_by_one}
use Rattle.algebra_model.proofs.SortedLaws.{sorted_is}
use Rattle.row_merge.specs.Merged.{Row}
use Rattle.row_merge.proofs.ZipLaws.{first_of}

abbrev same : Row → Row → Bool
same = same_solution term_eq

abbrev Known : Row → List Row → List Row → Type 0
Known y xs zs = ((u : Row) → IsUpTo cells_cmp u (y ∷ xs) → IsUpTo cells_cmp u zs)
    × ((p : Row → Bool) → list_any p zs ≡ (p y || list_any p xs))
    × (IsRising cells_cmp (y ∷ xs) → IsRising cells_cmp zs)
    × (IsRising cells_cmp (y ∷ xs) → IsWithoutRepeats same zs)

or_twice : (a b c : Bool) → a ≡ b → (a || c) ≡ (a || (b || c))
or_twice true b c e = refl
or_twice false true c e = absurd (false≢true e)
or_twice false false c e = refl

less : (r : Ordering) → is_gt r ≡ false → (r ≡ Equal → ⊥) → r ≡ Less
less Less g n = refl
less Equal g n = absurd (n refl)
less Greater g n = absurd (false≢true (sym g))

known : (y : Row) (xs : List Row) → Known y xs (dedup_from same y xs)
known y [] = (λ u h. h, λ p. refl, λ h. h, λ h. (refl, tt))
known y (x ∷ xs) = by (same x y) refl (known y xs) (known x xs)
  where
    by : (b : Bool) → same x y ≡ b → Known y xs (dedup_from same y xs) → Known x xs (dedup_from same x xs) → Known y (x ∷ xs) (cond b (dedup_from same y xs) (y ∷ dedup_from same x xs))
    by true e a b =
        let one : y ≡ x = sym ((solution_decides term_eq term_decides x y).0 e) in
        (λ u h. a.0 u (h.0, h.1.1), λ p. a.1 p ∙ or_twice (p y) (p x) (list_any p xs) (ap p one), λ h. a.2 (h.0.1, h.1.1), λ h. a.3 (h.0.1, h.1.1))
    by false e a b = (
      λ u h. (h.0, b.0 u h.1),
      λ p. ap (λ c. p y || c) (b.1 p),
      λ h. (b.0 y h.0, b.2 h.1),
      λ h.
          let different : cells_cmp y x ≡ Equal → ⊥ = λ r. false≢true (sym e ∙ (solution_decides term_eq term_decides x y).1 (sym (cells_equal y x r))) in
          (b.1 (same y) ∙ first_of cells_cmp false cells_cmp_total cells_equal same (solution_decides term_eq term_decides) y x xs (less (cells_cmp y x) h.0.0 different) h.1.0, b.3 h.1),
    )

pub sorted_once : (rows : List Row) → IsRising cells_cmp rows → dedup same rows ≡ sorted_list cells_cmp (distinct term_eq rows)
sorted_once [] h = refl
sorted_once (y ∷ xs) h =
    let k = known y xs in
    let zs = dedup_from same y xs in
    let is = solution_decides term_eq term_decides in
    sorted_is cells_cmp cells_cmp_total cells_equal (distinct term_eq (y ∷ xs)) zs
    (permutation_from_counts same is (distinct term_eq (y ∷ xs)) zs
    (λ z. count_by-without_repeats same is z (y ∷ xs) ∙ ap (λ (b : Bool). cond {A = Rattle.std.proofs.Common.ℕ} b 1 0) (sym (k.1 (same z)))
    ∙ sym (count_by_one same (same z) (λ a b p q. (is a b).1 (sym ((is z a).0 p) ∙ (is z b).0 q)) zs (k.3 h))))
    (k.2 h)
