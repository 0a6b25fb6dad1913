-- The quads of a part, as they are and as keys, and the graph names, quad by quad.
use Rattle.std.proofs.Common.{◌≡◌, ℕ, ◌+◌, ◌<◌, ◌≤◌, ◌||◌, Bool, true, false, cond, eq-eqb, Option, None, Some, List, [], ◌∷◌, ◌++◌, length, filter, map, take, get_or, slice_get, nat_eq, IsPermutation, IsSorted, refl, sym, ap, ◌∙◌, arith}
use Rattle.std.specs.List.{list_any, cons_option, dedup}
use Rattle.std.specs.Ordering.{nat_cmp}
use Rattle.std.proofs.lemmas.Bool.Decides.{Decides-eqb}
use Rattle.std.proofs.lemmas.Cmp.{nat_cmp_total}
use Rattle.std.proofs.lemmas.List.{append-nil, length-map, map-append, take_all}
use Rattle.std.proofs.lemmas.List.Elements.{filter_more}
use Rattle.std.proofs.lemmas.List.Folds.{list_any-append}
use Rattle.std.proofs.lemmas.List.Sorted.{length_permutation}
use Rattle.rdf_core.proofs.EscapeSteps.{eqb_no}
use Rattle.algebra_model.specs.Bag.{without_repeats}
use Rattle.algebra_model.proofs.BagLaws.{permutation_from_counts}
use Rattle.algebra_model.proofs.RepeatLaws.{count_by-without_repeats}
use Rattle.dict_core.specs.declared.num_quad.NumQuad.{NumQuad}
use Rattle.dict_core.proofs.NumQuadLaws.{quad_eq}
use Rattle.quad_index.specs.declared.counting.IndexCounts.{IndexCounts}
use Rattle.quad_index.specs.declared.sort_order.SortOrder.{SortOrder}
use Rattle.quad_index.specs.Counting.{IsCountOf}
use Rattle.quad_index.specs.Matching.{graph_names}
use Rattle.quad_index.specs.Packed.{quad_of}
use Rattle.quad_index.specs.Parts.{is_in, part_of}
use Rattle.quad_index.proofs.IndexSteps.{names_more}
use Rattle.quad_index.proofs.OnceLaws.{dedup_once_of}
use Rattle.quad_index.proofs.PackedLaws.{get_mapped}
use Rattle.quad_index.proofs.SortOrderLaws.{nat_ties}

-- ---- quads

module _ (part : ℕ) (qs : List NumQuad) (i : ℕ) (d : NumQuad) (n : ℕ) (low : i < length qs) (made : n ≡ part_of (get_or qs i d)) where
  -- one more quad, which is in the part
  pub quad_added : n ≡ part → filter (is_in part) (take (i + 1) qs) ≡ filter (is_in part) (take i qs) ++ get_or qs i d ∷ []
  quad_added same =
      let q = get_or qs i d in
      filter_more (is_in part) qs i d low
      ∙ ap (λ b. filter (is_in part) (take i qs) ++ cond b (q ∷ []) []) (eq-eqb (part_of q) part (sym made ∙ same))

  -- one more quad, which is in another part
  pub quad_left : (n ≡ part → ⊥) → filter (is_in part) (take (i + 1) qs) ≡ filter (is_in part) (take i qs)
  quad_left other =
      let q = get_or qs i d in
      filter_more (is_in part) qs i d low
      ∙ ap (λ b. filter (is_in part) (take i qs) ++ cond b (q ∷ []) []) (eqb_no (part_of q) part (λ e. other (made ∙ e)))
      ∙ append-nil (filter (is_in part) (take i qs))

pub list_added : (done more list longer : List NumQuad) (q : NumQuad) → more ≡ done ++ q ∷ [] → list ≡ done → longer ≡ list ++ q ∷ [] → longer ≡ more
list_added done more list longer q more_is was pushed = pushed ∙ ap (λ l. l ++ q ∷ []) was ∙ sym more_is

-- the count of an index is that of the distinct quads
pub counted_quads : (quads : List NumQuad) (counts : IndexCounts) → IsCountOf quads counts → counts.quads ≡ length (without_repeats quad_eq quads)
counted_quads quads counts c = c.quad_count ∙ length_permutation (without_repeats quad_eq quads) c.index c.each_once

-- ---- keys

module _ (order : SortOrder) (part : ℕ) (keys : List ℕ) (i : ℕ) (q : NumQuad) (n : ℕ) (low : i < length keys) (q_is : q ≡ quad_of order (get_or keys i 0)) (made : n ≡ part_of q) where
  abbrev quads : List NumQuad
  quads = map (quad_of order) keys

  low_quad : i < length quads
  low_quad = let same = length-map keys (quad_of order) in omega (arith, same)

  at_key : q ≡ get_or quads i q
  at_key = q_is ∙ sym (get_mapped order keys i q low)

  made_at : n ≡ part_of (get_or quads i q)
  made_at = made ∙ ap part_of at_key

  -- one more key, whose quad is in the part
  pub key_added : (found longer : List ℕ) → map (quad_of order) found ≡ filter (is_in part) (take i quads) → longer ≡ found ++ get_or keys i 0 ∷ [] → n ≡ part
      → map (quad_of order) longer ≡ filter (is_in part) (take (i + 1) quads)
  key_added found longer was pushed same =
      ap (map (quad_of order)) pushed ∙ map-append (quad_of order) found (get_or keys i 0 ∷ []) ∙ (λ j. was j ++ (sym q_is ∙ at_key) j ∷ [])
      ∙ sym (quad_added part quads i q n low_quad made_at same)

  -- one more key, whose quad is in another part
  pub key_left : (n ≡ part → ⊥) → filter (is_in part) (take (i + 1) quads) ≡ filter (is_in part) (take i quads)
  key_left other = quad_left part quads i q n low_quad made_at other

pub all_keys : (order : SortOrder) (part : ℕ) (keys : List ℕ) (i : ℕ) → length keys ≤ i → filter (is_in part) (take i (map (quad_of order) keys)) ≡ filter (is_in part) (map (quad_of order) keys)
all_keys order part keys i end =
    let same = length-map keys (quad_of order) in
    ap (filter (is_in part)) (take_all i (map (quad_of order) keys) (omega (arith, same)))

-- ---- graph names

or_false : (a : Bool) → (a || false) ≡ a
or_false true = refl
or_false false = refl

module _ (qs : List NumQuad) (i : ℕ) (q : NumQuad) (at : slice_get qs i ≡ Some q) where
  -- one more graph name
  pub name_added : (name n : ℕ) (old new : List ℕ) → q.g ≡ Some name → list_any (nat_eq n) old ≡ list_any (nat_eq n) (graph_names (take i qs))
      → list_any (nat_eq n) new ≡ (list_any (nat_eq n) old || nat_eq n name) → list_any (nat_eq n) new ≡ list_any (nat_eq n) (graph_names (take (i + 1) qs))
  name_added name n old new some was added =
      added ∙ ap (λ b. b || nat_eq n name) was
      ∙ sym (ap (list_any (nat_eq n)) (names_more qs i q at ∙ ap (λ (o : Option ℕ). graph_names (take i qs) ++ cons_option o []) some)
      ∙ list_any-append (nat_eq n) (graph_names (take i qs)) (name ∷ [])
      ∙ ap (λ b. list_any (nat_eq n) (graph_names (take i qs)) || b) (or_false (nat_eq n name)))

  -- a quad without a graph name
  pub no_name_added : (n : ℕ) → q.g ≡ None → list_any (nat_eq n) (graph_names (take (i + 1) qs)) ≡ list_any (nat_eq n) (graph_names (take i qs))
  no_name_added n none =
      ap (list_any (nat_eq n)) (names_more qs i q at ∙ ap (λ (o : Option ℕ). graph_names (take i qs) ++ cons_option o []) none ∙ append-nil (graph_names (take i qs)))

-- sorted names without repeats are as many as there are distinct names
pub names_counted : (names sorted all : List ℕ) → IsPermutation names sorted → IsSorted nat_cmp sorted → ((n : ℕ) → list_any (nat_eq n) names ≡ list_any (nat_eq n) all)
    → length (dedup nat_eq sorted) ≡ length (without_repeats nat_eq all)
names_counted names sorted all moved rising alike =
    length_permutation (without_repeats nat_eq names) (dedup nat_eq sorted) (dedup_once_of nat_eq Decides-eqb nat_cmp nat_cmp_total (λ x y. sym (nat_ties x y)) names sorted moved rising)
    ∙ length_permutation (without_repeats nat_eq all) (without_repeats nat_eq names)
    (permutation_from_counts nat_eq Decides-eqb (without_repeats nat_eq all) (without_repeats nat_eq names)
    (λ x. count_by-without_repeats nat_eq Decides-eqb x all ∙ ap (λ (b : Bool). cond b 1 0) (sym (alike x)) ∙ sym (count_by-without_repeats nat_eq Decides-eqb x names)))
