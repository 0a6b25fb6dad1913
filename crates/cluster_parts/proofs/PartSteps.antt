-- Steps of the loops that make the parts of a block.
use Rattle.std.proofs.Common.{◌≡◌, ℕ, zero, suc, ◌+◌, ◌<◌, ◌≤◌, Bool, true, false, cond, nat_eq, ◌||◌, if◌then◌else◌, List, [], ◌∷◌, ◌++◌, length, map, filter, get_or, take, drop, slice_get, codes, Option, Some, None, refl, sym, ap, subst, ◌∙◌, append_assoc, append-nil, length-append, arith, IsPermutation, IsSorted, eq-eqb, ne_eqb}
use Rattle.std.proofs.lemmas.List.{length-map, map-append}
use Rattle.std.specs.Prelude.{filter_map, option_to_list}
use Rattle.std.specs.Option.{option_map, unwrap_or}
use Rattle.std.specs.List.{AllByRecursion, IsDistinct, dedup, flat_map, cons_option, list_any}
use Rattle.std.specs.Ordering.{nat_cmp}
use Rattle.std.proofs.lemmas.Bool.{eqb-true}
use Rattle.std.proofs.lemmas.Bool.Decides.{Decides-eqb}
use Rattle.std.proofs.lemmas.List.{take_all, take_more, get_or-map}
use Rattle.std.proofs.lemmas.Option.{slice_get_within, unwrap_or-slice_get}
use Rattle.std.proofs.lemmas.Grind.{flat_map-append}
use Rattle.std.proofs.lemmas.List.Elements.{All-nil, filter-append, filter_map-append}
use Rattle.std.proofs.lemmas.List.Folds.{list_any-append}
use Rattle.std.proofs.lemmas.List.Sorted.{IsPermutation-map, length_permutation}
use Rattle.indexmap.specs.IndexSet.{IndexSet, contains, insert_key, insert_all}
use Rattle.rdf_core.specs.declared.term.Term.{Term}
use Rattle.rdf_core.specs.QuadParts.{QuadParts}
use Rattle.rdf_core.specs.Serialization.{serialization}
use Rattle.rdf_core.proofs.TermLaws.{term_eq}
use Rattle.nquads_core.specs.Laws.{IsNQuadsTerm, line_end}
use Rattle.dict_core.specs.declared.num_quad.NumQuad.{NumQuad}
use Rattle.dict_core.specs.Dict.{term_at}
use Rattle.dict_core.specs.Equality.{quad_eq}
use Rattle.dict_core.specs.NumQuad.{quad_at, quads_at, AreBelow, IsBelow}
use Rattle.dict_core.proofs.InsertLaws.{insert_all-append}
use Rattle.dict_core.proofs.AppearanceLaws.{appearances}
use Rattle.algebra_model.specs.Bag.{IsWithoutRepeats, without_repeats}
use Rattle.algebra_model.proofs.RepeatLaws.{IsWithoutRepeats-without_repeats, any-without_repeats_is}
use Rattle.algebra_model.specs.Dataset.{names}
use Rattle.text_dict.specs.TextDict.{IsAdded}
use Rattle.text_pieces.specs.Forms.{AreFormsOf, AreNumberedBy}
use Rattle.text_pieces.proofs.AddingLaws.{occur_at}
use Rattle.text_pieces.proofs.FormLaws.{inserted_form, length_forms}
use Rattle.quad_index.specs.Laws.{same_parts}
use Rattle.quad_index.proofs.ReadingLaws.{index_counts, index_reads}
use Rattle.cluster_parts.specs.Hash.{graph_hash, graph_key, hash, hash_numbers, number_bytes, quad_hash, subject_key, term_hash}
use Rattle.cluster_parts.specs.NumberList.{number_list}
use Rattle.cluster_parts.specs.Parts.{quad_document, quad_statement, texts_below}
use Rattle.cluster_parts.specs.Output.{AreHashesOf, hash_among}
use Rattle.cluster_parts.specs.Numbered.{end_by_number, hash_by_numbers, line_by_numbers, name_hash_by_number, text_at}
use Rattle.cluster_parts.specs.Repeated.{has, is_repeated, numbers_of, repeated_in, single}
use Rattle.cluster_parts.specs.Seal.{all_sealed, joined_texts, seal_head, sealed}
use Rattle.cluster_parts.proofs.AddUpLaws.{appearances_once}
use Rattle.cluster_parts.proofs.RepeatedLaws.{not_repeated, repeated_again, seen_before, singles_and_others, sorted_once}

-- ---- one more element of a list

pub at_place : {X : Type 0} (xs : List X) (n : ℕ) (x : X) → slice_get xs n ≡ Some x → get_or xs n x ≡ x
at_place xs n x at = sym (unwrap_or-slice_get xs n x) ∙ ap (λ (o : Option _). unwrap_or o x) at

pub taken : {X : Type 0} (xs : List X) (n : ℕ) (x : X) → slice_get xs n ≡ Some x → take (n + 1) xs ≡ take n xs ++ x ∷ []
taken xs n x at = take_more xs n x (slice_get_within xs n x at) ∙ ap (λ y. take n xs ++ y ∷ []) (at_place xs n x at)

pub map_more : {X Y : Type 0} (f : X → Y) (xs : List X) (n : ℕ) (x : X) (y : Y) (ys ys' : List Y) → slice_get xs n ≡ Some x → ys ≡ map f (take n xs) → y ≡ f x → ys' ≡ ys ++ y ∷ [] → ys' ≡ map f (take (n + 1) xs)
map_more f xs n x y ys ys' at was is pushed =
    pushed ∙ (λ i. was i ++ is i ∷ []) ∙ sym (map-append f (take n xs) (x ∷ [])) ∙ ap (map f) (sym (taken xs n x at))

one_kept : {X : Type 0} (f : X → List ℕ) (x : X) (b : Bool) → (if b then f x else []) ≡ flat_map f (cond b (x ∷ []) [])
one_kept f x true = sym (append-nil (f x))
one_kept f x false = refl

pub kept_more : {X : Type 0} (f : X → List ℕ) (p : X → Bool) (xs : List X) (n : ℕ) (x : X) (text text' : List ℕ) → slice_get xs n ≡ Some x
    → text ≡ flat_map f (filter p (take n xs)) → text' ≡ text ++ (if p x then f x else []) → text' ≡ flat_map f (filter p (take (n + 1) xs))
kept_more f p xs n x text text' at was wrote =
    wrote ∙ (λ i. was i ++ one_kept f x (p x) i)
    ∙ sym (flat_map-append f (filter p (take n xs)) (filter p (x ∷ [])))
    ∙ ap (flat_map f) (sym (filter-append p (take n xs) (x ∷ [])) ∙ ap (filter p) (sym (taken xs n x at)))

-- the text with this number
pub text_with_number : (texts : List (List ℕ)) (n : ℕ) (text : List ℕ) → slice_get texts n ≡ Some text → text_at texts n ≡ text
text_with_number texts n text at = ap (λ t. t) (any_default texts n [] text (slice_get_within texts n text at)) ∙ at_place texts n text at
  where
    any_default : (xs : List (List ℕ)) (m : ℕ) (d e : List ℕ) → m < length xs → get_or xs m d ≡ get_or xs m e
    any_default [] m d e low = absurd (omega (arith, low))
    any_default (x ∷ xs) zero d e low = refl
    any_default (x ∷ xs) (suc m) d e low = any_default xs m d e (omega (arith, low))

-- ---- graph names

one_name : (g : Option Term) → cons_option g [] ≡ option_to_list g
one_name None = refl
one_name (Some t) = refl

names_more : (terms : List Term) (quads : List NumQuad) (n : ℕ) (d : NumQuad) → n < length quads → let q = get_or quads n d in
    insert_all term_eq (insert_all term_eq [] (filter_map (λ q. q.g) (quads_at terms (take n quads)))) (option_to_list (quad_at terms q).g)
    ≡ insert_all term_eq [] (filter_map (λ q. q.g) (quads_at terms (take (n + 1) quads)))
names_more terms quads n d low =
    let q = get_or quads n d in
    let before = quads_at terms (take n quads) in
    ap (insert_all term_eq (insert_all term_eq [] (filter_map (λ q. q.g) before))) (sym (one_name (quad_at terms q).g))
    ∙ sym (insert_all-append [] (filter_map (λ q. q.g) before) (filter_map (λ q. q.g) (quad_at terms q ∷ [])))
    ∙ ap (insert_all term_eq []) (sym (filter_map-append (λ q. q.g) before (quad_at terms q ∷ []))
    ∙ ap (filter_map (λ q. q.g)) (sym (map-append (quad_at terms) (take n quads) (q ∷ [])) ∙ ap (map (quad_at terms)) (sym (take_more quads n d low))))

-- the names of the first quads
abbrev pub FirstNames : List (List ℕ) → List NumQuad → List (List ℕ) → Type 0
FirstNames texts quads known = (terms : List Term) → AreFormsOf terms texts → AreFormsOf (insert_all term_eq [] (filter_map (λ q. q.g) (quads_at terms quads))) known

pub no_names : (texts known : List (List ℕ)) → known ≡ [] → FirstNames texts [] known
no_names texts known none terms h = subst (AreFormsOf []) (sym none) (record { forms = refl; occur = All-nil IsNQuadsTerm })

pub one_more_name : (texts known known' : List (List ℕ)) (quads : List NumQuad) (n : ℕ) (d : NumQuad) → n < length quads → FirstNames texts (take n quads) known
    → ((earlier terms : List Term) → AreFormsOf earlier known → AreFormsOf terms texts → AreFormsOf (insert_all term_eq earlier (option_to_list (quad_at terms (get_or quads n d)).g)) known')
    → FirstNames texts (take (n + 1) quads) known'
one_more_name texts known known' quads n d low h added terms forms =
    subst (λ l. AreFormsOf l known') (names_more terms quads n d low) (added (insert_all term_eq [] (filter_map (λ q. q.g) (quads_at terms (take n quads)))) terms (h terms forms) forms)

all_names : (quads : List QuadParts) → insert_all term_eq [] (filter_map (λ q. q.g) quads) ≡ names quads
all_names quads = let found = filter_map (λ q. q.g) quads in sym (appearances found) ∙ appearances_once found

pub names_are : (all : List QuadParts) (texts known : List (List ℕ)) (quads some : List NumQuad) → some ≡ quads → FirstNames texts some known → AreNumberedBy all texts quads → AreFormsOf (names all) known
names_are all texts known quads some whole h are =
    subst (λ l. AreFormsOf l known)
    (ap (λ l. insert_all term_eq [] (filter_map (λ q. q.g) (quads_at are.terms l))) whole ∙ ap (λ l. insert_all term_eq [] (filter_map (λ q. q.g) l)) are.numbered.2 ∙ all_names all)
    (h are.terms are.forms)

-- the text with the number of a term is its form
pub text_is : (terms : List Term) (texts : List (List ℕ)) (n : ℕ) → AreFormsOf terms texts → n < length texts → text_at texts n ≡ serialization (term_at terms n)
text_is terms texts n h low = ap (λ l. get_or l n []) h.forms ∙ get_or-map serialization terms n _ [] (omega (arith, low, length_forms terms texts h))

at_number : (terms : List Term) (n : ℕ) → n < length terms → slice_get terms n ≡ Some (term_at terms n)
at_number [] n low = absurd (omega (arith, low))
at_number (t ∷ terms) zero low = refl
at_number (t ∷ terms) (suc n) low = at_number terms n (omega (arith, low))

pub name_added : (known known' texts : List (List ℕ)) (name : Option ℕ) (n : ℕ) → name ≡ Some n → n < length texts → IsAdded known (text_at texts n) known'
    → (earlier terms : List Term) → AreFormsOf earlier known → AreFormsOf terms texts → AreFormsOf (insert_all term_eq earlier (option_to_list (option_map (term_at terms) name))) known'
name_added known known' texts name n is low added earlier terms h forms =
    let inside : n < length terms = omega (arith, low, length_forms terms texts forms) in
    subst (λ g. AreFormsOf (insert_all term_eq earlier (option_to_list (option_map (term_at terms) g))) known') (sym is)
    (inserted_form earlier known known' (term_at terms n) (text_at texts n) h (occur_at terms n (term_at terms n) forms.occur (at_number terms n inside)) (text_is terms texts n forms low) added)

-- ---- hashes of quads

term_hash_at : (dict : List Term) (n : ℕ) → n < length dict → get_or (map term_hash dict) n 0 ≡ term_hash (term_at dict n)
term_hash_at dict n below = get_or-map term_hash dict n _ 0 below

name_hash_at : (dict : List Term) (g : Option ℕ) → ((n : ℕ) → g ≡ Some n → n < length dict) → name_hash_by_number (map term_hash dict) g ≡ graph_hash (option_map (term_at dict) g)
name_hash_at dict None below = refl
name_hash_at dict (Some n) below = term_hash_at dict n (below n refl)

hash_is : (dict : List Term) (q : NumQuad) → IsBelow (length dict) q → hash_by_numbers (map term_hash dict) q ≡ quad_hash (quad_at dict q)
hash_is dict q below =
    λ i. hash_numbers (term_hash_at dict q.s below.0 i ∷ term_hash_at dict q.p below.1 i ∷ term_hash_at dict q.o below.2 i ∷ name_hash_at dict q.g below.3 i ∷ [])

hashes_are : (dict : List Term) (numbered : List NumQuad) → AreBelow (length dict) numbered → map (hash_by_numbers (map term_hash dict)) numbered ≡ map quad_hash (quads_at dict numbered)
hashes_are dict [] below = refl
hashes_are dict (q ∷ qs) below =
    λ i. hash_is dict q (below 0 q (omega arith)) i ∷ hashes_are dict qs (λ k d low. below (suc k) d (omega arith)) i

-- the hashes of texts are those of the terms
forms_hashed : (terms : List Term) → map hash (map serialization terms) ≡ map term_hash terms
forms_hashed [] = refl
forms_hashed (t ∷ ts) = ap (λ l. term_hash t ∷ l) (forms_hashed ts)

pub hashed_terms : (terms : List Term) (texts : List (List ℕ)) (hashes : List ℕ) → AreFormsOf terms texts → hashes ≡ map hash texts → hashes ≡ map term_hash terms
hashed_terms terms texts hashes h made = made ∙ ap (map hash) h.forms ∙ forms_hashed terms

pub quad_hashes : (quads : List QuadParts) (texts : List (List ℕ)) (numbered : List NumQuad) (terms hashes : List ℕ) → AreNumberedBy quads texts numbered → terms ≡ map hash texts
    → hashes ≡ map (hash_by_numbers terms) numbered → hashes ≡ map quad_hash quads
quad_hashes quads texts numbered terms hashes h are made =
    made ∙ ap (λ l. map (hash_by_numbers l) numbered) (hashed_terms h.terms texts terms h.forms are)
    ∙ hashes_are h.terms numbered h.numbered.1 ∙ ap (map quad_hash) h.numbered.2

-- the hashes of the distinct quads of numbers are those of the distinct quads
pub distinct_hashes : (quads : List QuadParts) (texts : List (List ℕ)) (numbered index : List NumQuad) (terms hashes : List ℕ) → AreNumberedBy quads texts numbered → terms ≡ map hash texts
    → IsPermutation (without_repeats quad_eq numbered) index → hashes ≡ map (hash_by_numbers terms) index → AreHashesOf quads hashes
distinct_hashes quads texts numbered index terms hashes h are once made =
    let dict = h.terms in
    let hashed : hashes ≡ map quad_hash (quads_at dict index) =
    made ∙ ap (λ l. map (hash_by_numbers l) index) (hashed_terms dict texts terms h.forms are)
    ∙ hashes_are dict index (index_reads quads dict numbered index h.numbered once).1 in
    subst (IsPermutation (map quad_hash (without_repeats same_parts quads))) (sym hashed)
    (IsPermutation-map quad_hash (without_repeats same_parts quads) (quads_at dict index) (index_counts quads dict numbered index h.numbered once))

-- each number is that of a text
pub numbers_below : (quads : List QuadParts) (texts : List (List ℕ)) (numbered : List NumQuad) (n : ℕ) → AreNumberedBy quads texts numbered → n ≡ length texts → AreBelow n numbered
numbers_below quads texts numbered n h long = subst (λ m. AreBelow m numbered) (sym (long ∙ length_forms h.terms texts h.forms)) h.numbered.1

-- ---- one more part of a block

below_more : (f : ℕ → List ℕ) (n : ℕ) → texts_below f (n + 1) ≡ texts_below f n ++ f n
below_more f n = let next : n + 1 ≡ suc n = omega arith in ap (texts_below f) next

pub one_more_part : (f : ℕ → List ℕ) (n : ℕ) (before out out' part : List ℕ) → out ≡ before ++ texts_below f n → out' ≡ out ++ part → part ≡ f n → out' ≡ before ++ texts_below f (n + 1)
one_more_part f n before out out' part was pushed is =
    pushed ∙ (λ i. was i ++ is i) ∙ append_assoc before (texts_below f n) (f n) ∙ ap (λ l. before ++ l) (sym (below_more f n))

-- ---- numbers that were found

in_keys : (keys : List ℕ) (x n : ℕ) → list_any (nat_eq n) (insert_key nat_eq keys x) ≡ (list_any (nat_eq n) keys || nat_eq n x)
in_keys keys x n = by (list_any (nat_eq x) keys) refl
  where
    more : (a b : Bool) → (b ≡ true → a ≡ true) → a ≡ (a || b)
    more true b h = refl
    more false true h = h refl
    more false false h = refl

    or_false : (a b : Bool) → (a || (b || false)) ≡ (a || b)
    or_false true b = refl
    or_false false true = refl
    or_false false false = refl

    by : (b : Bool) → list_any (nat_eq x) keys ≡ b → list_any (nat_eq n) (if b then keys else keys ++ x ∷ []) ≡ (list_any (nat_eq n) keys || nat_eq n x)
    by true e = more (list_any (nat_eq n) keys) (nat_eq n x) (λ same. ap (λ m. list_any (nat_eq m) keys) (eqb-true n x same) ∙ e)
    by false e = list_any-append (nat_eq n) keys (x ∷ []) ∙ or_false (list_any (nat_eq n) keys) (nat_eq n x)

pub none_found : {S : Type 0} (xs : List ℕ) (again : IndexSet ℕ S) → again.keys ≡ [] → (n : ℕ) → contains nat_eq again n ≡ is_repeated (take 1 xs) n
none_found [] again e n = ap (list_any (nat_eq n)) e
none_found (x ∷ xs) again e n = ap (list_any (nat_eq n)) e ∙ by (nat_eq n x)
  where
    by : (b : Bool) → false ≡ (if b then false else false)
    by true = refl
    by false = refl

-- one more number of an ascending list
module _ {S : Type 0} (xs : List ℕ) (i j : ℕ) (again : IndexSet ℕ S) (up : IsSorted nat_cmp xs) (after : i ≡ j + 1) (low : i < length xs)
    (was : (n : ℕ) → contains nat_eq again n ≡ is_repeated (take i xs) n) where
  one_more : (n : ℕ) → is_repeated (take i xs ++ get_or xs i 0 ∷ []) n ≡ is_repeated (take (i + 1) xs) n
  one_more n = ap (λ l. is_repeated l n) (sym (take_more xs i 0 low))

  pub found_again : (again' : IndexSet ℕ S) → get_or xs i 0 ≡ get_or xs j 0 → again'.keys ≡ insert_key nat_eq again.keys (get_or xs i 0)
      → (n : ℕ) → contains nat_eq again' n ≡ is_repeated (take (i + 1) xs) n
  found_again again' same added n =
      let x = get_or xs i 0 in
      ap (list_any (nat_eq n)) added ∙ in_keys again.keys x n ∙ ap (λ b. b || nat_eq n x) (was n)
      ∙ repeated_again (take i xs) x n (seen_before xs i j up after low ∙ eq-eqb x (get_or xs j 0) same) ∙ one_more n

  pub found_new : (get_or xs i 0 ≡ get_or xs j 0 → ⊥) → (n : ℕ) → contains nat_eq again n ≡ is_repeated (take (i + 1) xs) n
  found_new other n =
      let x = get_or xs i 0 in
      was n ∙ not_repeated (take i xs) x n (seen_before xs i j up after low ∙ ne_eqb x (get_or xs j 0) other) ∙ one_more n

-- the lists of the numbers that were found
lists_in : (p : ℕ → Bool) (lists : List (List ℕ)) → map (λ list. number_list (filter p list)) lists ≡ map number_list (map (filter p) lists)
lists_in p [] = refl
lists_in p (list ∷ lists) = ap (λ l. number_list (filter p list) ∷ l) (lists_in p lists)

pub repeated_lists : (contained : ℕ → Bool) (count : ℕ) (lists : List (List ℕ)) (out0 out1 out2 : List ℕ) → count ≡ length (single (numbers_of lists)) → ((n : ℕ) → contained n ≡ is_repeated (numbers_of lists) n)
    → out0 ≡ [] → out1 ≡ out0 ++ sealed (number_bytes count) → out2 ≡ out1 ++ all_sealed (map (λ list. number_list (filter contained list)) lists)
    → out2 ≡ sealed (number_bytes (length (single (numbers_of lists)))) ++ all_sealed (map number_list (repeated_in lists))
repeated_lists contained count lists out0 out1 out2 count_is same none first second =
    second ∙ ap (λ l. l ++ all_sealed (map (λ list. number_list (filter contained list)) lists)) (first ∙ ap (λ l. l ++ sealed (number_bytes count)) none ∙ ap (λ n. sealed (number_bytes n)) count_is)
    ∙ ap (λ l. sealed (number_bytes (length (single (numbers_of lists)))) ++ all_sealed l)
    (lists_in contained lists ∙ (λ i. map number_list (map (filter (λ n. same n i)) lists)))

-- distinct keys
pub distinct_keys : (keys : List ℕ) → IsDistinct nat_eq keys → IsWithoutRepeats nat_eq keys
unfolding IsDistinct
distinct_keys [] h = tt
distinct_keys (k ∷ keys) h = (none keys h.0, distinct_keys keys h.1)
  where
    none : (ks : List ℕ) → AllByRecursion (λ y. nat_eq k y ≡ false) ks → list_any (nat_eq k) ks ≡ false
    none [] a = refl
    none (y ∷ ks) a = (λ i. a.0 i || none ks a.1 i)

-- the different numbers of an ascending list, less those that it has again
pub single_count : {S : Type 0} (xs ys : List ℕ) (again : IndexSet ℕ S) → IsSorted nat_cmp xs → ((n : ℕ) → contains nat_eq again n ≡ is_repeated xs n) → IsDistinct nat_eq again.keys → ys ≡ dedup nat_eq xs
    → length (single xs) + length again.keys ≡ length ys
single_count xs ys again up same once are =
    let all = without_repeats nat_eq xs in
    let sides : length (single xs) + length again.keys ≡ length all =
    singles_and_others xs all again.keys (IsWithoutRepeats-without_repeats nat_eq xs) (distinct_keys again.keys once) (λ n. any-without_repeats_is nat_eq Decides-eqb n xs) same in
    sides ∙ sym (length_permutation all (dedup nat_eq xs) (sorted_once xs up)) ∙ ap length (sym are)

-- ---- sealed texts

longer : (x : ℕ) (xs after : List ℕ) → length after < length ((x ∷ xs) ++ after)
longer x xs after = omega (arith, length-append xs after)

pub shorter : (text rest after : List ℕ) → rest ≡ sealed text ++ after → length after < length rest
unfolding seal_head
shorter text rest after e = subst (λ l. length after < length l) (sym e) (longer (get_or (sealed text) 0 0) (drop 1 (sealed text)) after)

pub one_more_text : (texts : List (List ℕ)) (bytes rest text after joined joined' : List ℕ) → bytes ≡ all_sealed texts ++ rest → rest ≡ sealed text ++ after
    → joined ≡ joined_texts texts → joined' ≡ joined ++ text
    → (bytes ≡ all_sealed (texts ++ text ∷ []) ++ after) × (joined' ≡ joined_texts (texts ++ text ∷ []))
one_more_text texts bytes rest text after joined joined' all first was more = (
  all ∙ ap (λ l. all_sealed texts ++ l) first ∙ sym (append_assoc (all_sealed texts) (sealed text) after)
      ∙ ap (λ l. l ++ after) (ap (λ l. all_sealed texts ++ l) (sym (append-nil (sealed text))) ∙ sym (flat_map-append sealed texts (text ∷ []))),
  more ∙ ap (λ l. l ++ text) was ∙ ap (λ l. joined_texts texts ++ l) (sym (append-nil text)) ∙ sym (flat_map-append (λ t. t) texts (text ∷ [])),
)

-- ---- sealed lists of numbers

-- one more sealed list
pub one_more_list : (lists : List (List ℕ)) (bytes rest text after list : List ℕ) → bytes ≡ all_sealed (map number_list lists) ++ rest → rest ≡ sealed text ++ after → text ≡ number_list list
    → bytes ≡ all_sealed (map number_list (lists ++ list ∷ [])) ++ after
one_more_list lists bytes rest text after list all first is =
    (one_more_text (map number_list lists) bytes rest text after (joined_texts (map number_list lists)) (joined_texts (map number_list lists) ++ text) all first refl refl).0
    ∙ ap (λ l. all_sealed l ++ after) (ap (λ t. map number_list lists ++ t ∷ []) is ∙ sym (map-append number_list lists (list ∷ [])))

pub more_numbers : (lists : List (List ℕ)) (numbers numbers' list : List ℕ) → numbers ≡ numbers_of lists → numbers' ≡ numbers ++ list → numbers' ≡ numbers_of (lists ++ list ∷ [])
more_numbers lists numbers numbers' list was pushed =
    pushed ∙ ap (λ l. l ++ list) was ∙ ap (λ l. numbers_of lists ++ l) (sym (append-nil list)) ∙ sym (flat_map-append (λ l. l) lists (list ∷ []))

-- ---- quads by key

taken_at : {X : Type 0} (xs : List X) (n : ℕ) (x : X) → n < length xs → get_or xs n x ≡ x → take (n + 1) xs ≡ take n xs ++ x ∷ []
taken_at xs n x low is = take_more xs n x low ∙ ap (λ y. take n xs ++ y ∷ []) is

pub keyed_more : (p : Option ℕ → Bool) (key : QuadParts → Option ℕ) (dict : List Term) (quads : List NumQuad) (keys : List (Option ℕ)) (i : ℕ) (d : NumQuad) (text text' : List ℕ)
    → i < length quads → keys ≡ map key (quads_at dict quads)
    → text ≡ quad_document (filter (λ q. p (key q)) (take i (quads_at dict quads)))
    → text' ≡ text ++ (if p (get_or keys i None) then quad_statement (quad_at dict (get_or quads i d)) else [])
    → text' ≡ quad_document (filter (λ q. p (key q)) (take (i + 1) (quads_at dict quads)))
keyed_more p key dict quads keys i d text text' low are was wrote =
    let xs = quads_at dict quads in
    let x = quad_at dict (get_or quads i d) in
    let inside : i < length xs = omega (arith, low, length-map quads (quad_at dict)) in
    let here : get_or xs i x ≡ x = get_or-map (quad_at dict) quads i d x low in
    let keyed : get_or keys i None ≡ key x = ap (λ l. get_or l i None) are ∙ get_or-map key xs i x None inside ∙ ap key here in
    let chosen : QuadParts → Bool = λ y. p (key y) in
    wrote ∙ (λ j. was j ++ (if p (keyed j) then quad_statement x else []))
    ∙ ap (λ l. quad_document (filter chosen (take i xs)) ++ l) (one_kept quad_statement x (chosen x))
    ∙ sym (flat_map-append quad_statement (filter chosen (take i xs)) (filter chosen (x ∷ [])))
    ∙ ap (flat_map quad_statement) (sym (filter-append chosen (take i xs) (x ∷ [])) ∙ ap (filter chosen) (sym (taken_at xs i x inside here)))

-- the line of a quad of numbers
pub line_is : (terms : List Term) (texts : List (List ℕ)) (q : NumQuad) → AreFormsOf terms texts → IsBelow (length texts) q → line_by_numbers texts q ≡ quad_statement (quad_at terms q)
line_is terms texts q h below =
    λ i. (text_is terms texts q.s h below.0 i ++ (codes " " ++ (text_is terms texts q.p h below.1 i ++ (codes " " ++ (text_is terms texts q.o h below.2 i ++ (codes " " ++ by q.g below.3 i)))))) ++ codes "\n"
  where
    by : (g : Option ℕ) → ((n : ℕ) → g ≡ Some n → n < length texts) → end_by_number texts g ≡ line_end (option_map (term_at terms) g)
    by None below = refl
    by (Some n) below = ap (λ t. t ++ codes " .") (text_is terms texts n h (below n refl))

-- one more line of a block
pub one_more_line : (p : Option ℕ → Bool) (all : List QuadParts) (key : QuadParts → Option ℕ) (texts : List (List ℕ)) (quads : List NumQuad) (keys : List (Option ℕ)) (i : ℕ) (d : NumQuad) (text text' : List ℕ)
    → i < length quads → AreNumberedBy all texts quads → keys ≡ map key all → IsBelow (length texts) (get_or quads i d)
    → text ≡ quad_document (filter (λ q. p (key q)) (take i all))
    → text' ≡ text ++ (if p (get_or keys i None) then line_by_numbers texts (get_or quads i d) else [])
    → text' ≡ quad_document (filter (λ q. p (key q)) (take (i + 1) all))
one_more_line p all key texts quads keys i d text text' low h are below was wrote =
    let is = sym h.numbered.2 in
    keyed_more p key h.terms quads keys i d text text' low (are ∙ ap (map key) is) (was ∙ ap (λ l. quad_document (filter (λ q. p (key q)) (take i l))) is)
    (wrote ∙ ap (λ t. text ++ (if p (get_or keys i None) then t else [])) (line_is h.terms texts (get_or quads i d) h.forms below))
    ∙ ap (λ l. quad_document (filter (λ q. p (key q)) (take (i + 1) l))) (sym is)

-- one more line of all quads of a block
pub next_quad : (all : List QuadParts) (texts : List (List ℕ)) (quads : List NumQuad) (i : ℕ) (d : NumQuad) (text text' : List ℕ)
    → i < length quads → AreNumberedBy all texts quads → IsBelow (length texts) (get_or quads i d)
    → text ≡ quad_document (take i all) → text' ≡ text ++ line_by_numbers texts (get_or quads i d) → text' ≡ quad_document (take (i + 1) all)
next_quad all texts quads i d text text' low h below was wrote =
    let is = sym h.numbered.2 in
    let xs = quads_at h.terms quads in
    let x = quad_at h.terms (get_or quads i d) in
    let inside : i < length xs = omega (arith, low, length-map quads (quad_at h.terms)) in
    let here : get_or xs i x ≡ x = get_or-map (quad_at h.terms) quads i d x low in
    let before = was ∙ ap (λ l. quad_document (take i l)) is in
    wrote ∙ (λ j. before j ++ line_is h.terms texts (get_or quads i d) h.forms below j)
    ∙ ap (λ t. quad_document (take i xs) ++ t) (sym (append-nil (quad_statement x)))
    ∙ sym (flat_map-append quad_statement (take i xs) (x ∷ []))
    ∙ ap quad_document (sym (taken_at xs i x inside here))
    ∙ ap (λ l. quad_document (take (i + 1) l)) (sym is)

pub all_of_quads : (all : List QuadParts) (texts : List (List ℕ)) (quads : List NumQuad) (n : ℕ) → length quads ≤ n → AreNumberedBy all texts quads → quad_document (take n all) ≡ quad_document all
all_of_quads all texts quads n enough h =
    let e = ap length h.numbered.2 in
    ap quad_document (take_all n all (omega (arith, enough, e, length-map quads (quad_at h.terms))))

-- ---- the keys of quads

subject_key_is : (dict : List Term) (q : NumQuad) → IsBelow (length dict) q → Some (get_or (map term_hash dict) q.s 0) ≡ subject_key (quad_at dict q)
subject_key_is dict q below = ap Some (term_hash_at dict q.s below.0)

graph_key_is : (dict : List Term) (g : Option ℕ) → ((n : ℕ) → g ≡ Some n → n < length dict) → option_map (λ n. get_or (map term_hash dict) n 0) g ≡ option_map term_hash (option_map (term_at dict) g)
graph_key_is dict None below = refl
graph_key_is dict (Some n) below = ap Some (term_hash_at dict n (below n refl))

-- a key of numbers, mapped over quads
keys_at : (f : NumQuad → Option ℕ) (key : QuadParts → Option ℕ) (dict : List Term) → ((q : NumQuad) → IsBelow (length dict) q → f q ≡ key (quad_at dict q)) → (numbered : List NumQuad)
    → AreBelow (length dict) numbered → map f numbered ≡ map key (quads_at dict numbered)
keys_at f key dict is [] below = refl
keys_at f key dict is (q ∷ qs) below = λ i. is q (below 0 q (omega arith)) i ∷ keys_at f key dict is qs (λ k d low. below (suc k) d (omega arith)) i

pub subject_keys_are : (quads : List QuadParts) (texts : List (List ℕ)) (numbered : List NumQuad) (hashes : List ℕ) (keys : List (Option ℕ)) → AreNumberedBy quads texts numbered → hashes ≡ map hash texts
    → keys ≡ map (λ q. Some (get_or hashes q.s 0)) numbered → keys ≡ map subject_key quads
subject_keys_are quads texts numbered hashes keys h are made =
    let dict = h.terms in
    made ∙ ap (λ l. map (λ q. Some (get_or l q.s 0)) numbered) (hashed_terms dict texts hashes h.forms are)
    ∙ keys_at (λ q. Some (get_or (map term_hash dict) q.s 0)) subject_key dict (subject_key_is dict) numbered h.numbered.1 ∙ ap (map subject_key) h.numbered.2

pub graph_keys_are : (quads : List QuadParts) (texts : List (List ℕ)) (numbered : List NumQuad) (hashes : List ℕ) (keys : List (Option ℕ)) → AreNumberedBy quads texts numbered → hashes ≡ map hash texts
    → keys ≡ map (λ q. option_map (λ n. get_or hashes n 0) q.g) numbered → keys ≡ map graph_key quads
graph_keys_are quads texts numbered hashes keys h are made =
    let dict = h.terms in
    made ∙ ap (λ l. map (λ q. option_map (λ n. get_or l n 0) q.g) numbered) (hashed_terms dict texts hashes h.forms are)
    ∙ keys_at (λ q. option_map (λ n. get_or (map term_hash dict) n 0) q.g) graph_key dict (λ q below. graph_key_is dict q.g below.3) numbered h.numbered.1 ∙ ap (map graph_key) h.numbered.2

-- the keys are as many as the quads of numbers
pub same_length : (quads : List QuadParts) (texts : List (List ℕ)) (numbered : List NumQuad) (key : QuadParts → Option ℕ) (keys : List (Option ℕ)) → AreNumberedBy quads texts numbered
    → keys ≡ map key quads → length keys ≡ length numbered
same_length quads texts numbered key keys h are =
    ap length are ∙ length-map quads key ∙ sym (ap length h.numbered.2) ∙ length-map numbered (quad_at h.terms)

-- ---- the hashes that are looked for

pub keys_are : (contained : ℕ → Bool) (hashes : List ℕ) (quads : List QuadParts) (quad_hashes : List ℕ) (keys : List (Option ℕ))
    → ((h : ℕ) → contained h ≡ has hashes h) → quad_hashes ≡ map quad_hash quads
    → keys ≡ map (λ h. if contained h then Some h else None) quad_hashes → keys ≡ map (hash_among hashes) quads
keys_are contained hashes quads quad_hashes keys same hashed made =
    made ∙ ap (λ l. map (λ h. if contained h then Some h else None) l) hashed ∙ over quads
  where
    over : (qs : List QuadParts) → map (λ h. if contained h then Some h else None) (map quad_hash qs) ≡ map (hash_among hashes) qs
    over [] = refl
    over (q ∷ qs) = (λ i. (if same (quad_hash q) i then Some (quad_hash q) else None) ∷ over qs i)

-- ---- the beginning of a sealed text

pub sealed_first : (bytes first second third text after : List ℕ) (len checksum : ℕ) → bytes ≡ seal_head ++ first → first ≡ number_bytes len ++ second → second ≡ number_bytes checksum ++ third
    → third ≡ text ++ after → len ≡ length text → checksum ≡ hash text → bytes ≡ sealed text ++ after
sealed_first bytes first second third text after len checksum a b c d is_len is_hash =
    let inner : second ≡ (number_bytes (hash text) ++ text) ++ after =
    c ∙ (λ i. number_bytes (is_hash i) ++ d i) ∙ sym (append_assoc (number_bytes (hash text)) text after) in
    let outer : first ≡ (number_bytes (length text) ++ (number_bytes (hash text) ++ text)) ++ after =
    b ∙ (λ i. number_bytes (is_len i) ++ inner i) ∙ sym (append_assoc (number_bytes (length text)) (number_bytes (hash text) ++ text) after) in
    a ∙ ap (λ l. seal_head ++ l) outer ∙ sym (append_assoc seal_head (number_bytes (length text) ++ (number_bytes (hash text) ++ text)) after)

-- ---- three texts, one after the other

pub three_texts : (out0 out1 out2 out3 a b c : List ℕ) → out0 ≡ [] → out1 ≡ out0 ++ a → out2 ≡ out1 ++ b → out3 ≡ out2 ++ c → out3 ≡ a ++ (b ++ c)
three_texts out0 out1 out2 out3 a b c none first second third =
    third ∙ ap (λ l. l ++ c) (second ∙ ap (λ l. l ++ b) (first ∙ ap (λ l. l ++ a) none)) ∙ append_assoc a b c
