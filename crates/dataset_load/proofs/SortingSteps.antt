-- The three lists of an index.
use Rattle.std.proofs.Common.{◌≡◌, ℕ, ◌<◌, List, [], ◌∷◌, Result, Ok, Err, IfOk, sym, subst, arith, IsPermutation}
use Rattle.std.specs.declared.alloc.AllocError.{AllocError}
use Rattle.std.specs.List.{slice_index_or}
use Rattle.dict_core.specs.declared.num_quad.NumQuad.{NumQuad}
use Rattle.quad_index.specs.declared.sort_order.SortOrder.TheVariants.{Gspo, Gpos, Gosp}
use Rattle.quad_index.proofs.ReadingLaws.{same_once}
use Rattle.dict_core.proofs.NumQuadLaws.{quad_eq}
use Rattle.algebra_model.specs.Bag.{without_repeats}
use Rattle.dataset_load.specs.Rounds.{AreSortedLists, IsSortedList, order_at}

pub record AreSorted (quads gspo gpos gosp : List NumQuad) : Type 0 where
  pub first : IsSortedList Gspo quads gspo
  pub second : IsSortedList Gpos quads gpos
  pub third : IsSortedList Gosp quads gosp
  pub same_second : IsPermutation gspo gpos
  pub same_third : IsPermutation gspo gosp

sorted_three : (quads gspo gpos gosp : List NumQuad) → IsSortedList Gspo quads gspo → IsSortedList Gpos quads gpos → IsSortedList Gosp quads gosp → AreSorted quads gspo gpos gosp
sorted_three quads gspo gpos gosp p q r = record {
  first = p;
  second = q;
  third = r;
  same_second = same_once (without_repeats quad_eq quads) gspo gpos p.each_once q.each_once;
  same_third = same_once (without_repeats quad_eq quads) gspo gosp p.each_once r.each_once;
}

pub three_sorted : (quads : List NumQuad) (lists : List (List NumQuad)) (a b c : List NumQuad) → AreSortedLists quads lists → lists ≡ a ∷ b ∷ c ∷ [] → AreSorted quads a b c
three_sorted quads lists a b c are e =
    let at = subst (λ (ls : List (List NumQuad)). (i : ℕ) → i < 3 → IsSortedList (order_at i) quads (slice_index_or ls i [])) e are.each in
    sorted_three quads a b c (at 0 (omega arith)) (at 1 (omega arith)) (at 2 (omega arith))

-- the index of the three lists has each quad once
pub index_once : (r : Result (List NumQuad) AllocError) (lists : List (List NumQuad)) (a b c : List NumQuad) → lists ≡ a ∷ b ∷ c ∷ []
    → IfOk r (λ index. index ≡ a) → IfOk r (λ index. (quads : List NumQuad) → AreSortedLists quads lists → IsPermutation (without_repeats quad_eq quads) index)
index_once (Ok index) lists a b c e is = λ quads are.
    subst (λ (list : List NumQuad). IsPermutation (without_repeats quad_eq quads) list) (sym is) (three_sorted quads lists a b c are e).first.each_once
index_once (Err failed) lists a b c e is = tt
