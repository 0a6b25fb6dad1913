-- The distinct quads of the partitions are those of the document.
use Rattle.std.proofs.Common.{◌≡◌, ℕ, zero, suc, ◌+◌, ◌<◌, ◌≤◌, ◌%◌, ◌==◌, Bool, true, false, cond, eqb, nat_eq, not, ◌&&◌, ◌||◌, if◌then◌else◌, List, [], ◌∷◌, ◌++◌, length, map, filter, get_or, Some, None, refl, sym, ap, subst, ◌∙◌, ⊎_elim, arith, ne_eqb, append-nil, append_assoc, eq-eqb, IsPermutation}
use Rattle.std.proofs.lemmas.List.{get_or-map, length-map, map-append}
use Rattle.std.specs.List.{AllZip, flat_map, list_any}
use Rattle.std.specs.Str.{bytes_eq}
use Rattle.std.proofs.lemmas.Bool.{cases_Bool, false≢true, eqb-true}
use Rattle.std.proofs.lemmas.Bool.Decides.{Decides-eqb}
use Rattle.std.proofs.lemmas.Grind.{flat_map-append}
use Rattle.std.proofs.lemmas.Nat.{mod_below}
use Rattle.std.proofs.lemmas.List.Sorted.{IsPermutation-append, IsPermutation-refl, list_any-IsPermutation}
use Rattle.std.proofs.lemmas.List.Elements.{filter-append}
use Rattle.std.proofs.lemmas.List.Folds.{list_any-append}
use Rattle.rdf_core.specs.QuadParts.{QuadParts}
use Rattle.nquads_core.specs.Laws.{quad_line}
use Rattle.nquads_core.specs.Lines.{lines}
use Rattle.dict_core.specs.Numbered.{joined}
use Rattle.algebra_model.specs.Bag.{without_repeats}
use Rattle.algebra_model.proofs.RepeatLaws.{any-without_repeats_is}
use Rattle.quad_index.specs.Laws.{same_parts}
use Rattle.quad_index.proofs.ReadingLaws.{parts_decides}
use Rattle.cluster_parts.specs.Hash.{quad_hash}
use Rattle.cluster_parts.specs.Parts.{has_key, hashes_in, is_in, quad_document, quads_in, texts_below}
use Rattle.cluster_parts.specs.Repeated.{has, is_repeated, numbers_of, repeated_in, single}
use Rattle.cluster_parts.specs.Output.{AreHashesOf, distinct_lines, hash_among}
use Rattle.cluster_parts.specs.Laws.{QuadsAddUp, block_again, each_below, hashes_again, partition_again, partition_hashes}
use Rattle.quad_index.specs.Parts.{sum_below}
use Rattle.cluster_parts.proofs.Each.{Each, Each-filter, Each-flat_map}
use Rattle.cluster_parts.proofs.DocumentLaws.{IsOfLine, block_quads, line_eq, lines_of_quads}
use Rattle.cluster_parts.proofs.SetCounts.{any-filter_is, parts_add_up, same_length, sum_below-plus, sum_below-same, sum_of_parts, without_repeats-map}
use Rattle.cluster_parts.proofs.RepeatedLaws.{any_hash, both_kinds, length_single, repeated_and_has, repeated_moved}

none_and : (a : Bool) → false ≡ (a && false)
none_and true = refl
none_and false = refl

below_numbers : (f : ℕ → List ℕ) (n : ℕ) → numbers_of (each_below f n) ≡ texts_below f n
below_numbers f zero = refl
below_numbers f (suc n) = flat_map-append (λ l. l) (each_below f n) (f n ∷ []) ∙ (λ i. below_numbers f n i ++ append-nil (f n) i)

-- ---- hashes that are in one partition

filter_two : {X : Type 0} (q r r' : X → Bool) → ((x : X) → q x ≡ true → r' x ≡ r x) → (xs : List X) → filter r' (filter q xs) ≡ filter q (filter r xs)
filter_two q r r' h [] = refl
filter_two {X} q r r' h (x ∷ xs) = by (q x) (r x) refl refl (filter_two q r r' h xs)
  where
    by : (a b : Bool) → q x ≡ a → r x ≡ b → filter r' (filter q xs) ≡ filter q (filter r xs)
        → filter r' (cond a (x ∷ filter q xs) (filter q xs)) ≡ filter q (cond b (x ∷ filter r xs) (filter r xs))
    by true true e f ih =
        ap (λ b. cond b (x ∷ filter r' (filter q xs)) (filter r' (filter q xs))) (h x e ∙ f) ∙ ap (λ l. x ∷ l) ih
        ∙ sym (ap (λ b. cond b (x ∷ filter q (filter r xs)) (filter q (filter r xs))) e)
    by true false e f ih = ap (λ b. cond b (x ∷ filter r' (filter q xs)) (filter r' (filter q xs))) (h x e ∙ f) ∙ ih
    by false true e f ih = ih ∙ sym (ap (λ b. cond b (x ∷ filter q (filter r xs)) (filter q (filter r xs))) e)
    by false false e f ih = ih

repeated_filter : (q : ℕ → Bool) (xs : List ℕ) (h : ℕ) → is_repeated (filter q xs) h ≡ (q h && is_repeated xs h)
repeated_filter q [] h = none_and (q h)
repeated_filter q (m ∷ xs) h = by (q m) refl (nat_eq h m) refl (repeated_filter q xs h) (any-filter_is nat_eq Decides-eqb q h xs)
  where
    by : (a : Bool) → q m ≡ a → (b : Bool) → nat_eq h m ≡ b → is_repeated (filter q xs) h ≡ (q h && is_repeated xs h) → has (filter q xs) h ≡ (q h && has xs h)
        → is_repeated (cond a (m ∷ filter q xs) (filter q xs)) h ≡ (q h && (if b then has xs h else is_repeated xs h))
    by true e true f ih any = ap (λ b. if b then has (filter q xs) h else is_repeated (filter q xs) h) f ∙ any
    by true e false f ih any = ap (λ b. if b then has (filter q xs) h else is_repeated (filter q xs) h) f ∙ ih
    by false e true f ih any =
        let no : q h ≡ false = ap q (eqb-true h m f) ∙ e in
        ih ∙ ap (λ b. b && is_repeated xs h) no ∙ sym (ap (λ b. b && has xs h) no)
    by false e false f ih any = ih

single_filter : (q : ℕ → Bool) (xs : List ℕ) → single (filter q xs) ≡ filter q (single xs)
single_filter q xs =
    filter_two q (λ n. not (is_repeated xs n)) (λ n. not (is_repeated (filter q xs) n))
    (λ n e. ap not (repeated_filter q xs n ∙ ap (λ b. b && is_repeated xs n) e)) xs

singles_add_up : (k : ℕ) → 0 < k → (hs : List ℕ) → sum_below (λ n. length (single (hashes_in k n hs))) k ≡ length (single hs)
singles_add_up k some hs =
    sum_below-same (λ n. length (single (hashes_in k n hs))) (λ n. length (filter (is_in k n) (single hs))) (λ n. ap length (single_filter (is_in k n) hs)) k
    ∙ sum_of_parts (λ h. h % k) k (λ h. mod_below h k some) (single hs)

gathered_hashes : (k n : ℕ) (hashes : List (List ℕ)) → numbers_of (partition_hashes k hashes n) ≡ hashes_in k n (numbers_of hashes)
gathered_hashes k n [] = refl
gathered_hashes k n (hs ∷ hashes) =
    ap (λ l. hashes_in k n hs ++ l) (gathered_hashes k n hashes)
    ∙ sym (filter-append (is_in k n) hs (numbers_of hashes))

-- ---- the hashes of all partitions

-- each partition has those of its hashes that are wanted
module _ (k : ℕ) (some : 0 < k) (wanted : ℕ → Bool) (lists : ℕ → List ℕ) (are : (n h : ℕ) → has (lists n) h ≡ (eqb (h % k) n && wanted h)) where
  no_part : (h j : ℕ) → j ≤ h % k → has (texts_below lists j) h ≡ false
  no_part h zero low = refl
  no_part h (suc j) low =
      let apart : eqb (h % k) j ≡ false = ne_eqb (h % k) j (λ e. absurd (omega (arith, e))) in
      list_any-append (nat_eq h) (texts_below lists j) (lists j)
      ∙ (λ i. no_part h j (omega arith) i || (are j h ∙ ap (λ b. b && wanted h) apart) i)

  some_part : (h j : ℕ) → h % k < j → has (texts_below lists j) h ≡ wanted h
  some_part h zero low = absurd (omega arith)
  some_part h (suc j) low =
      list_any-append (nat_eq h) (texts_below lists j) (lists j)
      ∙ ⊎_elim
      (λ (e : eqb (h % k) j ≡ true).
      let none = no_part h j (omega (arith, eqb-true (h % k) j e)) in
      (λ i. none i || (are j h ∙ ap (λ b. b && wanted h) e) i))
      (λ (e : eqb (h % k) j ≡ false).
      let one = some_part h j (omega (arith, other e)) in
      (λ i. one i || (are j h ∙ ap (λ b. b && wanted h) e) i) ∙ last (wanted h))
      (cases_Bool (eqb (h % k) j))
    where
      last : (b : Bool) → (b || false) ≡ b
      last true = refl
      last false = refl

      other : eqb (h % k) j ≡ false → h % k ≡ j → ⊥
      other e same = false≢true (sym e ∙ eq-eqb (h % k) j same)

  all_parts : (h : ℕ) → has (numbers_of (each_below lists k)) h ≡ wanted h
  all_parts h = ap (λ l. has l h) (below_numbers lists k) ∙ some_part h k (mod_below h k some)

-- ---- the hashes of a block that occur again

both_in : (a b c : Bool) → ((a && b) && (a && c)) ≡ (a && (b && c))
both_in true b c = refl
both_in false b c = refl

module _ (k : ℕ) (some : 0 < k) (hashes : List (List ℕ)) where
  abbrev all_hashes : List ℕ
  all_hashes = numbers_of hashes

  -- the hashes of a block
  abbrev of_block : ℕ → List ℕ
  of_block block = get_or hashes block []

  -- what `repeated` writes for a block in a partition
  list_is : (block : ℕ) → block < length hashes → (n : ℕ)
      → get_or (repeated_in (partition_hashes k hashes n)) block [] ≡ filter (is_repeated (hashes_in k n all_hashes)) (hashes_in k n (of_block block))
  list_is block low n =
      let lists = partition_hashes k hashes n in
      get_or-map (filter (is_repeated (numbers_of lists))) lists block [] [] (omega (arith, low, length-map hashes (hashes_in k n)))
      ∙ (λ i. filter (is_repeated (gathered_hashes k n hashes i)) (get_or-map (hashes_in k n) hashes block [] [] low i))

  list_has : (block : ℕ) → block < length hashes → (n h : ℕ)
      → has (get_or (repeated_in (partition_hashes k hashes n)) block []) h ≡ (eqb (h % k) n && (is_repeated all_hashes h && has (of_block block) h))
  list_has block low n h =
      ap (λ l. has l h) (list_is block low n)
      ∙ any-filter_is nat_eq Decides-eqb (is_repeated (hashes_in k n all_hashes)) h (hashes_in k n (of_block block))
      ∙ (λ i. repeated_filter (is_in k n) all_hashes h i && any-filter_is nat_eq Decides-eqb (is_in k n) h (of_block block) i)
      ∙ both_in (is_in k n h) (is_repeated all_hashes h) (has (of_block block) h)

  block_has : (block : ℕ) → block < length hashes → (h : ℕ)
      → has (numbers_of (hashes_again k hashes block)) h ≡ (is_repeated all_hashes h && has (of_block block) h)
  block_has block low h =
      all_parts k some (λ h. is_repeated all_hashes h && has (of_block block) h) (λ n. get_or (repeated_in (partition_hashes k hashes n)) block []) (list_has block low) h

  -- the hashes that occur again, of all blocks
  abbrev repeated_all : List ℕ
  repeated_all = filter (is_repeated all_hashes) all_hashes

  all_has : (h : ℕ) → has repeated_all h ≡ is_repeated all_hashes h
  all_has h = any-filter_is nat_eq Decides-eqb (is_repeated all_hashes) h all_hashes ∙ repeated_and_has all_hashes h

-- ---- quads that are read again

module _ (hashes : List ℕ) (k : ℕ) where
  abbrev again : List (List QuadParts) → ℕ → List QuadParts
  again quads n = flat_map (quads_in (hash_among hashes) k n) quads

  again_is : (quads : List (List QuadParts)) (n : ℕ) → again quads n ≡ quads_in (hash_among hashes) k n (joined quads)
  again_is [] n = refl
  again_is (qs ∷ quads) n =
      ap (λ l. quads_in (hash_among hashes) k n qs ++ l) (again_is quads n)
      ∙ sym (filter-append (λ q. has_key k n (hash_among hashes q)) qs (joined quads))

  again_adds_up : 0 < k → (quads : List (List QuadParts))
      → sum_below (λ n. length (without_repeats same_parts (again quads n))) k ≡ length (without_repeats same_parts (filter (λ q. has hashes (quad_hash q)) (joined quads)))
  again_adds_up some quads =
      parts_add_up same_parts parts_decides (λ q. quad_hash q % k) k (λ q. mod_below (quad_hash q) k some) (filter (λ q. has hashes (quad_hash q)) (joined quads)) (again quads)
      (λ n q. ap (list_any (same_parts q)) (again_is quads n)
      ∙ any-filter_is same_parts parts_decides (λ r. has_key k n (hash_among hashes r)) q (joined quads)
      ∙ by n q (has hashes (quad_hash q)) (list_any (same_parts q) (joined quads))
      ∙ ap (λ b. eqb (quad_hash q % k) n && b) (sym (any-filter_is same_parts parts_decides (λ r. has hashes (quad_hash r)) q (joined quads))))
    where
      by : (n : ℕ) (q : QuadParts) (b a : Bool) → (has_key k n (if b then Some (quad_hash q) else None) && a) ≡ (eqb (quad_hash q % k) n && (b && a))
      by n q true a = refl
      by n q false a = none_and (eqb (quad_hash q % k) n)

-- ---- the lines that are read again

-- a quad of the block is there
own_quad : (qs : List QuadParts) → Each (λ q. list_any (same_parts q) qs ≡ true) qs
own_quad [] = tt
own_quad (q ∷ qs) = (ap (λ b. b || list_any (same_parts q) qs) ((parts_decides q q).1 refl), later qs (own_quad qs))
  where
    right : (a b : Bool) → b ≡ true → (a || b) ≡ true
    right true b e = refl
    right false b e = e

    later : (rs : List QuadParts) → Each (λ r. list_any (same_parts r) qs ≡ true) rs → Each (λ r. list_any (same_parts r) (q ∷ qs) ≡ true) rs
    later [] h = tt
    later (r ∷ rs) h = (right (same_parts r q) (list_any (same_parts r) qs) h.0, later rs h.1)

-- the hash of a quad of the block is among those of its distinct quads
own_hash : (qs : List QuadParts) (hs : List ℕ) → AreHashesOf qs hs → Each (λ q. has hs (quad_hash q) ≡ true) qs
own_hash qs hs are = by qs (own_quad qs)
  where
    once : List QuadParts
    once = without_repeats same_parts qs

    by : (rs : List QuadParts) → Each (λ r. list_any (same_parts r) qs ≡ true) rs → Each (λ r. has hs (quad_hash r) ≡ true) rs
    by [] h = tt
    by (r ∷ rs) h = (
      sym (list_any-IsPermutation (nat_eq (quad_hash r)) (map quad_hash once) hs are)
          ∙ any_hash same_parts parts_decides quad_hash r once (any-without_repeats_is same_parts parts_decides r qs ∙ h.0),
      by rs h.1,
    )

-- the quads of a block that have one of the hashes, if the lists have the same hashes of the block
same_quads : (few all hs : List ℕ) (k n : ℕ) → ((h : ℕ) → has few h ≡ (has all h && has hs h)) → (rs : List QuadParts) → Each (λ r. has hs (quad_hash r) ≡ true) rs
    → quads_in (hash_among few) k n rs ≡ quads_in (hash_among all) k n rs
same_quads few all hs k n same [] own = refl
same_quads few all hs k n same (r ∷ rs) own =
    let one : has few (quad_hash r) ≡ has all (quad_hash r) = same (quad_hash r) ∙ ap (λ b. has all (quad_hash r) && b) own.0 ∙ and_true (has all (quad_hash r)) in
    let key : hash_among few r ≡ hash_among all r = ap (λ b. if b then Some (quad_hash r) else None) one in
    let rest = same_quads few all hs k n same rs own.1 in
    λ i. cond (has_key k n (key i)) (r ∷ rest i) (rest i)
  where
    and_true : (b : Bool) → (b && true) ≡ b
    and_true true = refl
    and_true false = refl

-- without hashes there is no quad
no_quads : (hashes : List ℕ) (k n : ℕ) → hashes ≡ [] → (qs : List QuadParts) → quads_in (hash_among hashes) k n qs ≡ []
no_quads hashes k n none [] = refl
no_quads hashes k n none (q ∷ qs) =
    ap (λ hs. cond (has_key k n (hash_among hs q)) (q ∷ quads_in (hash_among hashes) k n qs) (quads_in (hash_among hashes) k n qs)) none ∙ no_quads hashes k n none qs

empty : (xs : List ℕ) → (length xs == 0) ≡ true → xs ≡ []
empty [] e = refl
empty (x ∷ xs) e = absurd (omega (arith, eqb-true (length (x ∷ xs)) 0 e))

-- the lists of a function of the elements, one after the other
below_front : {X : Type 0} (f : ℕ → List X) (m : ℕ) → texts_below f (suc m) ≡ f 0 ++ texts_below (λ b. f (suc b)) m
below_front f zero = sym (append-nil (f 0))
below_front f (suc m) = ap (λ l. l ++ f (suc m)) (below_front f m) ∙ append_assoc (f 0) (texts_below (λ b. f (suc b)) m) (f (suc m))

flat_below : (f : ℕ → List (List ℕ)) (g : List QuadParts → List (List ℕ)) (quads : List (List QuadParts)) → ((b : ℕ) → b < length quads → flat_map lines (f b) ≡ g (get_or quads b []))
    → flat_map lines (texts_below f (length quads)) ≡ flat_map g quads
flat_below f g [] h = refl
flat_below f g (qs ∷ quads) h =
    ap (flat_map lines) (below_front f (length quads)) ∙ flat_map-append lines (f 0) (texts_below (λ b. f (suc b)) (length quads))
    ∙ (λ i. h 0 (omega arith) i ++ flat_below (λ b. f (suc b)) g quads (λ b low. h (suc b) (omega (arith, low))) i)

lines_of_all : (f : List QuadParts → List QuadParts) (quads : List (List QuadParts)) → flat_map (λ qs. map quad_line (f qs)) quads ≡ map quad_line (flat_map f quads)
lines_of_all f [] = refl
lines_of_all f (qs ∷ quads) = ap (λ l. map quad_line (f qs) ++ l) (lines_of_all f quads) ∙ sym (map-append quad_line (f qs) (flat_map f quads))

each_block : (quads : List (List QuadParts)) → Each (Each IsOfLine) quads → (block : ℕ) → Each IsOfLine (get_or quads block [])
each_block [] good block = tt
each_block (qs ∷ quads) good zero = good.0
each_block (qs ∷ quads) good (suc block) = each_block quads good.1 block

-- the hashes of each block
zip_at : (quads : List (List QuadParts)) (hashes : List (List ℕ)) → AllZip AreHashesOf quads hashes → (block : ℕ) → block < length quads
    → (block < length hashes) × AreHashesOf (get_or quads block []) (get_or hashes block [])
zip_at [] hashes h block low = absurd (omega (arith, low))
zip_at (qs ∷ quads) [] h block low = elim h [ ]
zip_at (qs ∷ quads) (hs ∷ hashes) h zero low = (omega arith, h.0)
zip_at (qs ∷ quads) (hs ∷ hashes) h (suc block) low =
    let rest = zip_at quads hashes h.1 block (omega (arith, low)) in
    let below = rest.0 in
    (omega (arith, below), rest.1)

module _ (k : ℕ) (some : 0 < k) (quads : List (List QuadParts)) (good : Each (Each IsOfLine) quads) (hashes : List (List ℕ)) (are : AllZip AreHashesOf quads hashes) where
  -- what is read again of a block
  abbrev of_all : ℕ → List QuadParts → List QuadParts
  of_all n qs = quads_in (hash_among (repeated_all k some hashes)) k n qs

  block_quads_again : (n block : ℕ) → block < length quads
      → quads_in (hash_among (numbers_of (hashes_again k hashes block))) k n (get_or quads block []) ≡ of_all n (get_or quads block [])
  block_quads_again n block low =
      let one = zip_at quads hashes are block low in
      same_quads (numbers_of (hashes_again k hashes block)) (repeated_all k some hashes) (of_block k some hashes block) k n
      (λ h. block_has k some hashes block one.0 h ∙ ap (λ b. b && has (of_block k some hashes block) h) (sym (all_has k some hashes h)))
      (get_or quads block []) (own_hash (get_or quads block []) (get_or hashes block []) one.1)

  block_lines : (n block : ℕ) → block < length quads → flat_map lines (block_again k quads hashes n block) ≡ map quad_line (of_all n (get_or quads block []))
  block_lines n block low = by (length again == 0) refl
    where
      again : List ℕ
      again = numbers_of (hashes_again k hashes block)

      qs : List QuadParts
      qs = get_or quads block []

      found : List QuadParts
      found = quads_in (hash_among again) k n qs

      by : (b : Bool) → (length again == 0) ≡ b → flat_map lines (if b then [] else quad_document found ∷ []) ≡ map quad_line (of_all n qs)
      by true e = ap (map quad_line) (sym (no_quads again k n (empty again e) qs) ∙ block_quads_again n block low)
      by false e =
          append-nil (lines (quad_document found))
          ∙ lines_of_quads found (Each-filter IsOfLine (λ q. has_key k n (hash_among again q)) qs (each_block quads good block))
          ∙ ap (map quad_line) (block_quads_again n block low)

  counted_again : (n : ℕ) → distinct_lines (partition_again k quads hashes n) ≡ length (without_repeats same_parts (again (repeated_all k some hashes) k quads n))
  counted_again n =
      let found = again (repeated_all k some hashes) k quads n in
      let all : Each IsOfLine found =
      Each-flat_map (Each IsOfLine) IsOfLine (of_all n) (λ qs h. Each-filter IsOfLine (λ q. has_key k n (hash_among (repeated_all k some hashes) q)) qs h) quads good in
      ap (λ l. length (without_repeats bytes_eq l))
      (flat_below (block_again k quads hashes n) (λ qs. map quad_line (of_all n qs)) quads (block_lines n) ∙ lines_of_all (of_all n) quads)
      ∙ ap length (without_repeats-map IsOfLine same_parts bytes_eq quad_line line_eq found all)
      ∙ length-map (without_repeats same_parts found) quad_line

-- ---- the distinct quads of the blocks

-- the distinct quads of each block, one block after the other
abbrev once_each : List (List QuadParts) → List QuadParts
once_each quads = flat_map (without_repeats same_parts) quads

-- they are the quads of the document
once_any : (q : QuadParts) (quads : List (List QuadParts)) → list_any (same_parts q) (once_each quads) ≡ list_any (same_parts q) (joined quads)
once_any q [] = refl
once_any q (qs ∷ quads) =
    list_any-append (same_parts q) (without_repeats same_parts qs) (once_each quads)
    ∙ (λ i. any-without_repeats_is same_parts parts_decides q qs i || once_any q quads i)
    ∙ sym (list_any-append (same_parts q) qs (joined quads))

-- the hashes of all blocks are theirs
once_hashed : (quads : List (List QuadParts)) (hashes : List (List ℕ)) → AllZip AreHashesOf quads hashes → IsPermutation (map quad_hash (once_each quads)) (numbers_of hashes)
once_hashed [] [] h = IsPermutation-refl []
once_hashed [] (hs ∷ hashes) h = elim h [ ]
once_hashed (qs ∷ quads) [] h = elim h [ ]
once_hashed (qs ∷ quads) (hs ∷ hashes) h =
    let one = map quad_hash (without_repeats same_parts qs) in
    let rest = map quad_hash (once_each quads) in
    subst (λ l. IsPermutation l (hs ++ numbers_of hashes)) (sym (map-append quad_hash (without_repeats same_parts qs) (once_each quads)))
    (IsPermutation-append one hs rest (numbers_of hashes) h.0 (once_hashed quads hashes h.1))

-- the distinct ones of the quads that pass a test
once_passes : (p : QuadParts → Bool) (quads : List (List QuadParts))
    → length (without_repeats same_parts (filter p (joined quads))) ≡ length (without_repeats same_parts (filter p (once_each quads)))
once_passes p quads = same_length same_parts parts_decides (filter p (joined quads)) (filter p (once_each quads)) (λ q.
    any-filter_is same_parts parts_decides p q (joined quads) ∙ ap (λ b. p q && b) (sym (once_any q quads))
    ∙ sym (any-filter_is same_parts parts_decides p q (once_each quads)))

-- ---- the law

pub quads_add_up : QuadsAddUp
quads_add_up k blocks quads hashes some h are =
    let Q = joined quads in
    let D = once_each quads in
    let hs = numbers_of hashes in
    let repeated = repeated_all k some hashes in
    let good = block_quads blocks quads h.statements in
    let moved = once_hashed quads hashes are in
    sum_below-same (λ n. length (single (numbers_of (partition_hashes k hashes n))) + distinct_lines (partition_again k quads hashes n))
    (λ n. length (single (hashes_in k n hs)) + length (without_repeats same_parts (again repeated k quads n)))
    (λ n i. length (single (gathered_hashes k n hashes i)) + counted_again k some quads good hashes are n i) k
    ∙ sum_below-plus (λ n. length (single (hashes_in k n hs))) (λ n. length (without_repeats same_parts (again repeated k quads n))) k
    ∙ (λ i. singles_add_up k some hs i + again_adds_up repeated k some quads i)
    ∙ (λ i. length_single (map quad_hash D) hs moved i + once_passes (λ q. has repeated (quad_hash q)) quads i)
    ∙ ap (λ (p : QuadParts → Bool). length (single (map quad_hash D)) + length (without_repeats same_parts (filter p D)))
    (λ i q. (all_has k some hashes (quad_hash q) ∙ repeated_moved (map quad_hash D) hs moved (quad_hash q)) i)
    ∙ both_kinds same_parts parts_decides quad_hash D
    ∙ same_length same_parts parts_decides D Q (λ q. once_any q quads)
