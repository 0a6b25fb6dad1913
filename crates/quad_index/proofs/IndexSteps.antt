-- The steps of the functions of the index.
use Rattle.std.proofs.Common.{◌≡◌, ℕ, zero, suc, ◌+◌, ◌<◌, false, Option, None, Some, List, [], ◌∷◌, length, get_or, slice_get, take, ◌++◌, filter, nat_eq, IsPermutation, IsSorted, refl, sym, ap, ◌∙◌, subst, arith}
use Rattle.std.specs.List.{All, cons_option, dedup}
use Rattle.std.proofs.lemmas.Bool.Decides.{Decides-eqb}
use Rattle.std.specs.Ordering.{is_eq, is_lt, nat_cmp}
use Rattle.std.specs.Option.{option_cmp}
use Rattle.std.specs.declared.cmp.Ordering.{Ordering}
use Rattle.std.proofs.lemmas.Cmp.{nat_cmp_total}
use Rattle.std.proofs.lemmas.List.{take_more}
use Rattle.std.proofs.lemmas.Option.{slice_get_within, get_or_from_slice_get}
use Rattle.std.proofs.lemmas.List.Elements.{filter_agree, filter_map-append, All-head, All-tail}
use Rattle.std.proofs.lemmas.List.Sorted.{sorted_far, ranks_by}
use Rattle.algebra_model.proofs.BagLaws.{IsPermutation-filter}
use Rattle.dict_core.specs.declared.num_quad.NumQuad.{NumQuad}
use Rattle.dict_core.proofs.NumQuadLaws.{quad_eq, quad_decides}
use Rattle.quad_index.specs.declared.prefix.Prefix.{Prefix}
use Rattle.quad_index.specs.Indexed.{prefix_cmp, scan_key}
use Rattle.algebra_model.specs.Bag.{without_repeats}
use Rattle.std.specs.List.Sorted.{IsStrictlyIncreasing}
use Rattle.std.proofs.lemmas.Map.Keys.{IsStrictlyIncreasing-dedup}
use Rattle.quad_index.proofs.OnceLaws.{dedup_once}
use Rattle.quad_index.specs.SortOrder.{by_g, by_gspo}
use Rattle.quad_index.specs.Matching.{agrees, graph_names}
use Rattle.quad_index.proofs.SortOrderLaws.{total_g, sorted_g, nat_ties}

-- a part of one of the lists is, in some order, the part of the set
pub scanned : (by : Prefix) (g s p o : Option ℕ) (now gspo list slice found : List NumQuad) (w : NumQuad) → gspo ≡ now → IsPermutation gspo list → slice ≡ list
    → w ≡ scan_key g s p o → found ≡ filter (λ q. is_eq (prefix_cmp by q w)) slice
    → ((q : NumQuad) → is_eq (prefix_cmp by q (scan_key g s p o)) ≡ agrees g s p o q)
    → IsPermutation (filter (agrees g s p o) now) found
scanned by g s p o now gspo list slice found w now_is moved slice_is key_is found_is alike =
    let A = agrees g s p o in
    let same : found ≡ filter A list =
    found_is ∙ ap (filter (λ q. is_eq (prefix_cmp by q w))) slice_is
    ∙ filter_agree (λ q. is_eq (prefix_cmp by q w)) A (λ q. ap (λ v. is_eq (prefix_cmp by q v)) key_is ∙ alike q) list in
    subst (λ l. IsPermutation (filter A l) found) now_is
    (subst (λ l. IsPermutation (filter A gspo) l) (sym same) (IsPermutation-filter quad_eq quad_decides A gspo list moved))

-- graph names of quads that are sorted by the graph are sorted
no_less : (n m : ℕ) → is_lt (option_cmp nat_cmp (Some m) (Some n)) ≡ false → is_lt (nat_cmp m n) ≡ false
no_less n m h = h

tail_sorted : {X : Type 0} (R : X → X → Ordering) (x : X) (xs : List X) → IsSorted R (x ∷ xs) → IsSorted R xs
tail_sorted R x xs h k d low high =
    let next : suc k + 1 ≡ suc (k + 1) = omega arith in
    subst (λ n. is_lt (R (get_or (x ∷ xs) n d) (get_or xs k d)) ≡ false) next (h (suc k) d (omega arith) (omega arith))

push_front : (n : ℕ) (ms : List ℕ) → IsSorted nat_cmp ms → ((d : ℕ) → 0 < length ms → is_lt (nat_cmp (get_or ms 0 d) n) ≡ false) → IsSorted nat_cmp (n ∷ ms)
push_front n ms h first zero d low high =
    let next : suc zero ≡ zero + 1 = omega arith in
    subst (λ k. is_lt (nat_cmp (get_or (n ∷ ms) k d) n) ≡ false) next (first d (omega arith))
push_front n ms h first (suc k) d low high =
    let next : suc (k + 1) ≡ suc k + 1 = omega arith in
    subst (λ j. is_lt (nat_cmp (get_or (n ∷ ms) j d) (get_or ms k d)) ≡ false) next (h k d (omega arith) (omega arith))

-- the first name after a quad that has one
first_name : (q : NumQuad) (n : ℕ) → q.g ≡ Some n → (qs : List NumQuad) → All (λ r. is_lt (by_g r q) ≡ false) qs
    → (d : ℕ) → 0 < length (graph_names qs) → is_lt (nat_cmp (get_or (graph_names qs) 0 d) n) ≡ false
first_name q n e [] h d inside = absurd (omega arith)
first_name q n e (r ∷ qs) h d inside = by r.g refl inside (λ i. first_name q n e qs (All-tail (λ z. is_lt (by_g z q) ≡ false) r qs h) d i)
  where
    by : (o : Option ℕ) → r.g ≡ o → 0 < length (cons_option o (graph_names qs)) → (0 < length (graph_names qs) → is_lt (nat_cmp (get_or (graph_names qs) 0 d) n) ≡ false)
        → is_lt (nat_cmp (get_or (cons_option o (graph_names qs)) 0 d) n) ≡ false
    by None f inside rest = rest inside
    by (Some m) f inside rest = subst (λ o. is_lt (option_cmp nat_cmp o (Some n)) ≡ false) f (subst (λ o. is_lt (option_cmp nat_cmp r.g o) ≡ false) e (All-head (λ z. is_lt (by_g z q) ≡ false) r qs h))

pub names_sorted : (qs : List NumQuad) → IsSorted by_g qs → IsSorted nat_cmp (graph_names qs)
names_sorted [] h = λ k d low high. absurd (omega arith)
names_sorted (q ∷ qs) h = by q.g refl (names_sorted qs (tail_sorted by_g q qs h))
  where
    not_below : All (λ r. is_lt (by_g r q) ≡ false) qs
    not_below k d below = sorted_far (λ a b. is_lt (by_g a b)) (ranks_by total_g (λ r. r)) (q ∷ qs) h 0 (suc k) d (omega arith) (omega arith)

    by : (o : Option ℕ) → q.g ≡ o → IsSorted nat_cmp (graph_names qs) → IsSorted nat_cmp (cons_option o (graph_names qs))
    by None e rest = rest
    by (Some n) e rest = push_front n (graph_names qs) rest (first_name q n e qs not_below)

-- the graph names of one quad more
pub names_more : (qs : List NumQuad) (i : ℕ) (q : NumQuad) → slice_get qs i ≡ Some q → graph_names (take (i + 1) qs) ≡ graph_names (take i qs) ++ cons_option q.g []
names_more qs i q at =
    ap graph_names (take_more qs i q (slice_get_within qs i q at) ∙ ap (λ x. take i qs ++ x ∷ []) (get_or_from_slice_get qs i q q at))
    ∙ filter_map-append (λ x. x.g) (take i qs) (q ∷ [])

-- the graph names of an index
pub names_once : (now gspo : List NumQuad) (names slice : List ℕ) → gspo ≡ now → IsSorted by_gspo gspo → names ≡ dedup nat_eq (graph_names gspo) → slice ≡ names
    → IsPermutation (without_repeats nat_eq (graph_names now)) slice
names_once now gspo names slice now_is sorted names_are slice_is =
    subst (λ l. IsPermutation (without_repeats nat_eq (graph_names l)) slice) now_is
    (subst (λ l. IsPermutation (without_repeats nat_eq (graph_names gspo)) l) (sym (slice_is ∙ names_are))
    (dedup_once nat_eq Decides-eqb nat_cmp nat_cmp_total (λ x y. sym (nat_ties x y)) (graph_names gspo) (names_sorted gspo (sorted_g gspo sorted))))

pub names_rise : (gspo : List NumQuad) (names slice : List ℕ) → IsSorted by_gspo gspo → names ≡ dedup nat_eq (graph_names gspo) → slice ≡ names → IsStrictlyIncreasing slice
names_rise gspo names slice sorted names_are slice_is =
    subst IsStrictlyIncreasing (sym (slice_is ∙ names_are)) (IsStrictlyIncreasing-dedup (graph_names gspo) (names_sorted gspo (sorted_g gspo sorted)))
