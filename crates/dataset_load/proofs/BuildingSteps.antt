-- The lists and the terms that the first round builds.
use Rattle.std.proofs.Common.{◌≡◌, ℕ, zero, suc, ◌+◌, ◌<◌, ◌≤◌, List, [], ◌∷◌, length, refl, sym, ap, ◌∙◌, subst, arith}
use Rattle.std.specs.List.{slice_index_or}
use Rattle.rdf_core.specs.declared.term.Term.{Term}
use Rattle.dict_core.specs.declared.num_quad.NumQuad.{NumQuad}
use Rattle.text_pieces.specs.Forms.{AreFormsOf}
use Rattle.dataset_load.specs.declared.building.Built.{Built}
use Rattle.dataset_load.specs.declared.building.Built.TheVariants.{Sorted, Read}
use Rattle.dataset_load.specs.Building.{IsBuilt, lists_in, terms_in}
use Rattle.dataset_load.specs.Rounds.{AreSortedLists, IsSortedList, order_at}
use Rattle.dataset_load.specs.Terms.{AreTermParts, IsTermPart}

module _ (quads : List NumQuad) (texts : List (List ℕ)) where
  -- what each of these is, from number n on
  abbrev AreBuilt : ℕ → List Built → Type 0
  AreBuilt n bs = (i : ℕ) (d : Built) → i < length bs → IsBuilt quads texts (n + i) (slice_index_or bs i d)

  head_of : (n : ℕ) (b : Built) (bs : List Built) → AreBuilt n (b ∷ bs) → IsBuilt quads texts n b
  head_of n b bs are =
      let here : n + 0 ≡ n = omega arith in
      subst (λ i. IsBuilt quads texts i b) here (are 0 b (omega arith))

  tail_of : (n : ℕ) (b : Built) (bs : List Built) → AreBuilt n (b ∷ bs) → AreBuilt (suc n) bs
  tail_of n b bs are = λ i d low.
      let next : n + suc i ≡ suc n + i = omega arith in
      subst (λ k. IsBuilt quads texts k (slice_index_or bs i d)) next (are (suc i) d (omega (arith, low)))

  after : (part : ℕ) (dict : List Term) (bs : List Built) → AreBuilt (3 + part) (Read dict ∷ bs) → AreBuilt (3 + suc part) bs
  after part dict bs are =
      let next : suc (3 + part) ≡ 3 + suc part = omega arith in
      subst (λ n. AreBuilt n bs) next (tail_of (3 + part) (Read dict) bs are)

  -- after the third one all are terms
  no_lists : (part : ℕ) (bs : List Built) → AreBuilt (3 + part) bs → lists_in bs ≡ []
  no_lists part [] are = refl
  no_lists part (Sorted list ∷ bs) are = absurd (omega (arith, (head_of (3 + part) (Sorted list) bs are).0))
  no_lists part (Read dict ∷ bs) are = no_lists (suc part) bs (after part dict bs are)

  all_terms : (part : ℕ) (bs : List Built) → AreBuilt (3 + part) bs → (terms : List Term) → AreFormsOf terms texts → AreTermParts terms part (terms_in bs)
  all_terms part [] are terms forms = tt
  all_terms part (Sorted list ∷ bs) are terms forms = absurd (omega (arith, (head_of (3 + part) (Sorted list) bs are).0))
  all_terms part (Read dict ∷ bs) are terms forms =
      let at = head_of (3 + part) (Read dict) bs are in
      let same : at.0 ≡ part = omega (arith, at.1) in
      (subst (λ n. IsTermPart texts n dict) same at.2 terms forms, all_terms (suc part) bs (after part dict bs are) terms forms)

  -- each of the first three is a list
  is_list : (i : ℕ) (b : Built) → i < 3 → IsBuilt quads texts i b → (list : List NumQuad) × (b ≡ Sorted list) × IsSortedList (order_at i) quads list
  is_list i (Sorted list) low built = (list, refl, built.1)
  is_list i (Read dict) low built = absurd (omega (arith, low, built.1))

  three_lists : (a b c : List NumQuad) → IsSortedList (order_at 0) quads a → IsSortedList (order_at 1) quads b → IsSortedList (order_at 2) quads c
      → AreSortedLists quads (a ∷ b ∷ c ∷ [])
  three_lists a b c p q r = record { three = refl; each = each }
    where
      each : (i : ℕ) → i < 3 → IsSortedList (order_at i) quads (slice_index_or (a ∷ b ∷ c ∷ []) i [])
      each zero low = p
      each (suc zero) low = q
      each (suc (suc zero)) low = r
      each (suc (suc (suc i))) low = absurd (omega (arith, low))

  later : (x y z : Built) (bs : List Built) → ((i : ℕ) (d : Built) → i < length (x ∷ y ∷ z ∷ bs) → IsBuilt quads texts i (slice_index_or (x ∷ y ∷ z ∷ bs) i d)) → AreBuilt (3 + 0) bs
  later x y z bs are = λ i d low.
      let at : suc (suc (suc i)) ≡ 3 + 0 + i = omega arith in
      subst (λ n. IsBuilt quads texts n (slice_index_or bs i d)) at (are (suc (suc (suc i))) d (omega (arith, low)))

  pub lists_built : (bs : List Built) → 3 ≤ length bs → ((i : ℕ) (d : Built) → i < length bs → IsBuilt quads texts i (slice_index_or bs i d)) → AreSortedLists quads (lists_in bs)
  lists_built [] long are = absurd (omega (arith, long))
  lists_built (x ∷ []) long are = absurd (omega (arith, long))
  lists_built (x ∷ y ∷ []) long are = absurd (omega (arith, long))
  lists_built (x ∷ y ∷ z ∷ bs) long are =
      let first = is_list 0 x (omega arith) (are 0 x (omega arith)) in
      let second = is_list 1 y (omega arith) (are 1 x (omega arith)) in
      let third = is_list 2 z (omega arith) (are 2 x (omega arith)) in
      let none = no_lists 0 bs (later x y z bs are) in
      let all : lists_in (x ∷ y ∷ z ∷ bs) ≡ first.0 ∷ second.0 ∷ third.0 ∷ [] =
      (λ k. lists_in (first.1 k ∷ second.1 k ∷ third.1 k ∷ bs)) ∙ ap (λ ls. first.0 ∷ second.0 ∷ third.0 ∷ ls) none in
      subst (AreSortedLists quads) (sym all) (three_lists first.0 second.0 third.0 first.2 second.2 third.2)

  pub terms_built : (bs : List Built) → 3 ≤ length bs → ((i : ℕ) (d : Built) → i < length bs → IsBuilt quads texts i (slice_index_or bs i d))
      → (terms : List Term) → AreFormsOf terms texts → AreTermParts terms 0 (terms_in bs)
  terms_built [] long are terms forms = absurd (omega (arith, long))
  terms_built (x ∷ []) long are terms forms = absurd (omega (arith, long))
  terms_built (x ∷ y ∷ []) long are terms forms = absurd (omega (arith, long))
  terms_built (x ∷ y ∷ z ∷ bs) long are terms forms =
      let first = is_list 0 x (omega arith) (are 0 x (omega arith)) in
      let second = is_list 1 y (omega arith) (are 1 x (omega arith)) in
      let third = is_list 2 z (omega arith) (are 2 x (omega arith)) in
      let all : terms_in (x ∷ y ∷ z ∷ bs) ≡ terms_in bs = (λ k. terms_in (first.1 k ∷ second.1 k ∷ third.1 k ∷ bs)) in
      subst (AreTermParts terms 0) (sym all) (all_terms 0 bs (later x y z bs are) terms forms)
