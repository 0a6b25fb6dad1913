-- The counts of sorted keys are those of an index of their quads.
use Rattle.std.proofs.Common.{◌≡◌, ℕ, zero, suc, ◌+◌, ◌<◌, ◌≤◌, ◌||◌, Bool, true, false, cond, List, [], ◌∷◌, length, map, drop, slice_index_or, nat_eq, IsPermutation, IsSorted, eqb-true, eq-eqb, refl, sym, ap, ◌∙◌, true≢false, inl, inr, ◌⊎◌, arith}
use Rattle.std.proofs.Math.Seq.{drop-cons}
use Rattle.std.specs.List.{cons_option, dedup, dedup_from}
use Rattle.std.specs.Ordering.{nat_cmp}
use Rattle.std.proofs.lemmas.Bool.Decides.{Decides-eqb}
use Rattle.std.proofs.lemmas.Cmp.{nat_cmp_total}
use Rattle.std.proofs.lemmas.List.{length-map}
use Rattle.std.proofs.lemmas.List.Sorted.{length_permutation}
use Rattle.algebra_model.specs.Bag.{without_repeats}
use Rattle.dict_core.specs.declared.num_quad.NumQuad.{NumQuad}
use Rattle.dict_core.proofs.NumQuadLaws.{quad_eq}
use Rattle.quad_index.specs.declared.counting.IndexCounts.{IndexCounts}
use Rattle.quad_index.specs.declared.sort_order.SortOrder.{SortOrder}
use Rattle.quad_index.specs.declared.sort_order.SortOrder.TheVariants.{Gspo, Gpos, Gosp}
use Rattle.quad_index.specs.SortOrder.{by_g, by_gspo}
use Rattle.quad_index.specs.Matching.{graph_names}
use Rattle.quad_index.specs.Packed.{AreKeys, graph_key_of, graph_of, quad_of}
use Rattle.quad_index.specs.Counting.{IsCountOf, names_after}
use Rattle.quad_index.proofs.IndexSteps.{names_sorted}
use Rattle.quad_index.proofs.OnceLaws.{dedup_once}
use Rattle.quad_index.proofs.PackedLaws.{packed_list}
use Rattle.quad_index.proofs.SortOrderLaws.{nat_ties, sorted_by_g, sorted_g}

-- the graph names of the quads that have these keys
abbrev names_of_keys : List ℕ → List ℕ
names_of_keys keys = graph_names (map (quad_of Gspo) keys)

no_zero : (h : ℕ) → nat_eq (suc h) 0 ≡ true → ⊥
no_zero h e = let none : suc h ≡ 0 = eqb-true (suc h) 0 e in absurd (omega arith)

-- after the name g
after : (g : ℕ) (keys : List ℕ) → suc (names_after (suc g) keys) ≡ length (dedup_from nat_eq g (names_of_keys keys))
after g [] = refl
after g (key ∷ keys) = by (graph_key_of key) (after g keys) (λ h. after h keys)
  where
    split : (h : ℕ) (z : Bool) → nat_eq (suc h) 0 ≡ z → (a : Bool) → nat_eq (suc h) (suc g) ≡ a → (b : Bool) → nat_eq h g ≡ b
        → suc (names_after (suc g) keys) ≡ length (dedup_from nat_eq g (names_of_keys keys)) → suc (names_after (suc h) keys) ≡ length (dedup_from nat_eq h (names_of_keys keys))
        → suc (cond (z || a) (names_after (suc g) keys) (suc (names_after (suc h) keys))) ≡ length (cond b (dedup_from nat_eq g (names_of_keys keys)) (g ∷ dedup_from nat_eq h (names_of_keys keys)))
    split h true e a f b k stay go = absurd (no_zero h e)
    split h false e true f true k stay go = stay
    split h false e false f false k stay go = ap suc go
    split h false e true f false k stay go =
        let level : suc h ≡ suc g = eqb-true (suc h) (suc g) f in
        let same : h ≡ g = omega arith in
        absurd (true≢false (sym (eq-eqb h g same) ∙ k))
    split h false e false f true k stay go =
        let same : h ≡ g = eqb-true h g k in
        let level : suc h ≡ suc g = omega arith in
        absurd (true≢false (sym (eq-eqb (suc h) (suc g) level) ∙ f))

    by : (k : ℕ) → suc (names_after (suc g) keys) ≡ length (dedup_from nat_eq g (names_of_keys keys)) → ((h : ℕ) → suc (names_after (suc h) keys) ≡ length (dedup_from nat_eq h (names_of_keys keys)))
        → suc (cond (nat_eq k 0 || nat_eq k (suc g)) (names_after (suc g) keys) (suc (names_after k keys))) ≡ length (dedup_from nat_eq g (cons_option (graph_of k) (names_of_keys keys)))
    by zero stay go = stay
    by (suc h) stay go = split h (nat_eq (suc h) 0) refl (nat_eq (suc h) (suc g)) refl (nat_eq h g) refl stay (go h)

-- before the first name
before : (keys : List ℕ) → names_after 0 keys ≡ length (dedup nat_eq (names_of_keys keys))
before [] = refl
before (key ∷ keys) = by (graph_key_of key) (before keys) (λ h. after h keys)
  where
    split : (h : ℕ) (z : Bool) → nat_eq (suc h) 0 ≡ z → suc (names_after (suc h) keys) ≡ length (dedup_from nat_eq h (names_of_keys keys))
        → cond (z || z) (names_after 0 keys) (suc (names_after (suc h) keys)) ≡ length (dedup_from nat_eq h (names_of_keys keys))
    split h true e go = absurd (no_zero h e)
    split h false e go = go

    by : (k : ℕ) → names_after 0 keys ≡ length (dedup nat_eq (names_of_keys keys)) → ((h : ℕ) → suc (names_after (suc h) keys) ≡ length (dedup_from nat_eq h (names_of_keys keys)))
        → cond (nat_eq k 0 || nat_eq k 0) (names_after 0 keys) (suc (names_after k keys)) ≡ length (dedup nat_eq (cons_option (graph_of k) (names_of_keys keys)))
    by zero stay go = stay
    by (suc h) stay go = split h (nat_eq (suc h) 0) refl (go h)

-- ---- one more key

unlike : (a b : ℕ) → ¬ (a ≡ b) → nat_eq a b ≡ false
unlike a b h = by (nat_eq a b) refl
  where
    by : (e : Bool) → nat_eq a b ≡ e → e ≡ false
    by true e = absurd (h (eqb-true a b e))
    by false e = refl

either : (a b c : ℕ) → (a ≡ b) ⊎ (a ≡ c) → (nat_eq a b || nat_eq a c) ≡ true
either a b c (inl h) = ap (λ e. e || nat_eq a c) (eq-eqb a b h)
either a b c (inr h) = by (nat_eq a b)
  where
    by : (e : Bool) → (e || nat_eq a c) ≡ true
    by true = refl
    by false = eq-eqb a c h

module _ (keys : List ℕ) (i count last name : ℕ) (low : i < length keys) (name_is : name ≡ graph_key_of (slice_index_or keys i 0)) (was : count + names_after last (drop i keys) ≡ names_after 0 keys) where
  at_key : names_after last (drop i keys) ≡ cond (nat_eq name 0 || nat_eq name last) (names_after last (drop (i + 1) keys)) (suc (names_after name (drop (i + 1) keys)))
  at_key =
      let s : suc i ≡ i + 1 = omega arith in
      let n = sym name_is in
      ap (names_after last) (drop-cons keys i 0 low)
      ∙ (λ j. cond (nat_eq (n j) 0 || nat_eq (n j) last) (names_after last (drop (s j) keys)) (suc (names_after (n j) (drop (s j) keys))))

  pub new_name : ¬ (name ≡ 0) → ¬ (name ≡ last) → (count + 1) + names_after name (drop (i + 1) keys) ≡ names_after 0 keys
  new_name some other =
      let new : names_after last (drop i keys) ≡ suc (names_after name (drop (i + 1) keys)) =
      at_key ∙ (λ j. cond (unlike name 0 some j || unlike name last other j) (names_after last (drop (i + 1) keys)) (suc (names_after name (drop (i + 1) keys)))) in
      omega (arith, new, was)

  pub old_name : (name ≡ 0) ⊎ (name ≡ last) → count + names_after last (drop (i + 1) keys) ≡ names_after 0 keys
  old_name same =
      let old : names_after last (drop i keys) ≡ names_after last (drop (i + 1) keys) =
      at_key ∙ ap (λ e. cond e (names_after last (drop (i + 1) keys)) (suc (names_after name (drop (i + 1) keys)))) (either name 0 last same) in
      omega (arith, old, was)

none_left : (keys : List ℕ) (i : ℕ) → length keys ≤ i → drop i keys ≡ []
none_left [] zero h = refl
none_left [] (suc i) h = refl
none_left (key ∷ keys) zero h = absurd (omega arith)
none_left (key ∷ keys) (suc i) h = none_left keys i (omega arith)

pub all_names : (keys : List ℕ) (i count last : ℕ) → length keys ≤ i → count + names_after last (drop i keys) ≡ names_after 0 keys → count ≡ names_after 0 keys
all_names keys i count last over was =
    let none : names_after last (drop i keys) ≡ 0 = ap (names_after last) (none_left keys i over) in
    omega (arith, none, was)

-- ---- the counts

-- a list that is sorted by the graph has as many graph names as it has names that differ from the name before
names_count : (index : List NumQuad) → IsSorted by_g index → length (dedup nat_eq (graph_names index)) ≡ length (without_repeats nat_eq (graph_names index))
names_count index sorted =
    length_permutation (without_repeats nat_eq (graph_names index)) (dedup nat_eq (graph_names index))
    (dedup_once nat_eq Decides-eqb nat_cmp nat_cmp_total (λ x y. sym (nat_ties x y)) (graph_names index) (names_sorted index sorted))

-- the place of the graph name is the same in each order
names_alike : (order : SortOrder) (keys : List ℕ) → names_of_keys keys ≡ graph_names (map (quad_of order) keys)
names_alike Gspo keys = refl
names_alike Gpos [] = refl
names_alike Gpos (key ∷ keys) = ap (cons_option (graph_of (graph_key_of key))) (names_alike Gpos keys)
names_alike Gosp [] = refl
names_alike Gosp (key ∷ keys) = ap (cons_option (graph_of (graph_key_of key))) (names_alike Gosp keys)

-- the counts of sorted keys
pub counted : (order : SortOrder) (keys sorted_keys : List ℕ) (counts : IndexCounts) → AreKeys keys → IsPermutation keys sorted_keys → IsSorted nat_cmp sorted_keys
    → counts.quads ≡ length (dedup nat_eq sorted_keys) → counts.graphs ≡ names_after 0 (dedup nat_eq sorted_keys) → IsCountOf (map (quad_of order) keys) counts
counted order keys sorted_keys counts fit moved sorted quads_are graphs_are =
    let ks = dedup nat_eq sorted_keys in
    let list = map (quad_of order) ks in
    let p = packed_list order keys sorted_keys list fit moved sorted refl in
    record {
      index = list;
      each_once = p.each_once;
      quad_count = quads_are ∙ sym (length-map ks (quad_of order));
      graph_count = graphs_are ∙ before ks ∙ ap (λ (ns : List ℕ). length (dedup nat_eq ns)) (names_alike order ks) ∙ names_count list (sorted_by_g order list p.sorted);
    }

-- the counts of the sorted quads
pub counted_list : (quads list : List NumQuad) (names : List ℕ) (counts : IndexCounts) → IsSorted by_gspo list → IsPermutation (without_repeats quad_eq quads) list
    → names ≡ dedup nat_eq (graph_names list) → counts.quads ≡ length list → counts.graphs ≡ length names → IsCountOf quads counts
counted_list quads list names counts sorted once names_are quads_are graphs_are = record {
  index = list;
  each_once = once;
  quad_count = quads_are;
  graph_count = graphs_are ∙ ap length names_are ∙ names_count list (sorted_g list sorted);
}
