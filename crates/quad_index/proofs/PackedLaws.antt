-- Packed keys have the order of their quads, and give them back.
use Rattle.std.proofs.Common.{◌≡◌, ℕ, zero, suc, ◌+◌, ◌*◌, ◌/◌, ◌%◌, ◌^◌, ◌<◌, ◌≤◌, Bool, true, false, cond, Option, None, Some, List, [], ◌∷◌, ◌++◌, length, get_or, map, take, nat_eq, nat_lt, All, IsPermutation, IsSorted, eqb-true, ltb-true, ltb-false, eq-eqb, refl, sym, ap, ◌∙◌, append_assoc, subst, true≢false, inl, inr, ◌⊎◌, arith, rules}
use Rattle.std.specs.List.{dedup, dedup_from}
use Rattle.std.specs.Ordering.{is_lt, nat_cmp, ordering_then}
use Rattle.std.specs.Option.{ForSome, option_cmp}
use Rattle.std.specs.declared.cmp.Ordering.TheVariants.{Less, Equal, Greater}
use Rattle.std.proofs.lemmas.Nat.{div-add-mod', div-mul-add, div_below, mod-mul-add, mod_below}
use Rattle.std.proofs.lemmas.List.{length-map, map-append, take_all, take_more}
use Rattle.std.proofs.lemmas.List.Elements.{All-head, All-tail}
use Rattle.std.proofs.lemmas.List.Sorted.{All-permutation, IsPermutation-map}
use Rattle.algebra_model.specs.Bag.{IsWithoutRepeats, without_repeats}
use Rattle.dict_core.specs.declared.num_quad.NumQuad.{NumQuad}
use Rattle.dict_core.proofs.NumQuadLaws.{quad_eq, quad_decides}
use Rattle.quad_index.specs.declared.sort_order.SortOrder.{SortOrder}
use Rattle.quad_index.specs.declared.sort_order.SortOrder.TheVariants.{Gspo, Gpos, Gosp}
use Rattle.quad_index.specs.SortOrder.{order_cmp}
use Rattle.quad_index.specs.Packed.{AreKeys, IsSmall, graph_key, graph_key_of, graph_of, key_of, key_of_places, quad_of, quad_of_places, with_place}
use Rattle.quad_index.proofs.OnceLaws.{dedup_distinct, dedup_once_of, dedup_sorted}
use Rattle.quad_index.proofs.SortOrderLaws.{order_ties, order_total}

-- ---- the order of keys

cmp_less : (n m : ℕ) → n < m → nat_cmp n m ≡ Less
cmp_less n m h = by (nat_lt n m) refl
  where
    by : (b : Bool) → nat_lt n m ≡ b → cond b Less (cond (nat_eq n m) Equal Greater) ≡ Less
    by true e = refl
    by false e = let over = ltb-false n m e in absurd (omega (arith, over))

cmp_same : (n m : ℕ) → n ≡ m → nat_cmp n m ≡ Equal
cmp_same n m h = by (nat_lt n m) refl (nat_eq n m) refl
  where
    by : (a : Bool) → nat_lt n m ≡ a → (b : Bool) → nat_eq n m ≡ b → cond a Less (cond b Equal Greater) ≡ Equal
    by true e b k = let below : n < m = ltb-true n m e in absurd (omega arith)
    by false e true k = refl
    by false e false k = absurd (true≢false (sym (eq-eqb n m h) ∙ k))

cmp_more : (n m : ℕ) → m < n → nat_cmp n m ≡ Greater
cmp_more n m h = by (nat_lt n m) refl (nat_eq n m) refl
  where
    by : (a : Bool) → nat_lt n m ≡ a → (b : Bool) → nat_eq n m ≡ b → cond a Less (cond b Equal Greater) ≡ Greater
    by true e b k = let below : n < m = ltb-true n m e in absurd (omega arith)
    by false e true k = let level : n ≡ m = eqb-true n m k in absurd (omega arith)
    by false e false k = refl

which : (n m : ℕ) → (n < m) ⊎ ((n ≡ m) ⊎ (m < n))
which n m = search (rules, arith)

place_cmp : (x y a b : ℕ) → a < 2 ^ 32 → b < 2 ^ 32 → nat_cmp (with_place x a) (with_place y b) ≡ ordering_then (nat_cmp x y) (nat_cmp a b)
place_cmp x y a b la lb = by (which x y) (which a b)
  where
    by : (x < y) ⊎ ((x ≡ y) ⊎ (y < x)) → (a < b) ⊎ ((a ≡ b) ⊎ (b < a)) → nat_cmp (with_place x a) (with_place y b) ≡ ordering_then (nat_cmp x y) (nat_cmp a b)
    by (inl h) k = cmp_less (with_place x a) (with_place y b) (omega arith) ∙ sym (ap (λ o. ordering_then o (nat_cmp a b)) (cmp_less x y h))
    by (inr (inr h)) k = cmp_more (with_place x a) (with_place y b) (omega arith) ∙ sym (ap (λ o. ordering_then o (nat_cmp a b)) (cmp_more x y h))
    by (inr (inl h)) (inl k) = cmp_less (with_place x a) (with_place y b) (omega arith) ∙ sym (ap (λ o. ordering_then o (nat_cmp a b)) (cmp_same x y h) ∙ cmp_less a b k)
    by (inr (inl h)) (inr (inl k)) = cmp_same (with_place x a) (with_place y b) (omega arith) ∙ sym (ap (λ o. ordering_then o (nat_cmp a b)) (cmp_same x y h) ∙ cmp_same a b k)
    by (inr (inl h)) (inr (inr k)) = cmp_more (with_place x a) (with_place y b) (omega arith) ∙ sym (ap (λ o. ordering_then o (nat_cmp a b)) (cmp_same x y h) ∙ cmp_more a b k)

graph_cmp : (g h : Option ℕ) → nat_cmp (graph_key g) (graph_key h) ≡ option_cmp nat_cmp g h
graph_cmp None None = cmp_same 0 0 refl
graph_cmp None (Some m) = cmp_less 0 (m + 1) (omega arith)
graph_cmp (Some n) None = cmp_more (n + 1) 0 (omega arith)
graph_cmp (Some n) (Some m) = by (which n m)
  where
    by : (n < m) ⊎ ((n ≡ m) ⊎ (m < n)) → nat_cmp (n + 1) (m + 1) ≡ nat_cmp n m
    by (inl h) = cmp_less (n + 1) (m + 1) (omega arith) ∙ sym (cmp_less n m h)
    by (inr (inl h)) = cmp_same (n + 1) (m + 1) (omega arith) ∙ sym (cmp_same n m h)
    by (inr (inr h)) = cmp_more (n + 1) (m + 1) (omega arith) ∙ sym (cmp_more n m h)

places_cmp : (g h : Option ℕ) (a b c x y z : ℕ) → a < 2 ^ 32 → b < 2 ^ 32 → c < 2 ^ 32 → x < 2 ^ 32 → y < 2 ^ 32 → z < 2 ^ 32
    → nat_cmp (key_of_places (graph_key g) a b c) (key_of_places (graph_key h) x y z)
    ≡ ordering_then (ordering_then (ordering_then (option_cmp nat_cmp g h) (nat_cmp a x)) (nat_cmp b y)) (nat_cmp c z)
places_cmp g h a b c x y z la lb lc lx ly lz =
    place_cmp (with_place (with_place (graph_key g) a) b) (with_place (with_place (graph_key h) x) y) c z lc lz
    ∙ ap (λ o. ordering_then o (nat_cmp c z))
    (place_cmp (with_place (graph_key g) a) (with_place (graph_key h) x) b y lb ly
    ∙ ap (λ o. ordering_then o (nat_cmp b y))
    (place_cmp (graph_key g) (graph_key h) a x la lx ∙ ap (λ o. ordering_then o (nat_cmp a x)) (graph_cmp g h)))

pub key_cmp : (order : SortOrder) (q r : NumQuad) → IsSmall q → IsSmall r → nat_cmp (key_of order q) (key_of order r) ≡ order_cmp order q r
key_cmp Gspo q r k l = places_cmp q.g r.g q.s q.p q.o r.s r.p r.o k.s k.p k.o l.s l.p l.o
key_cmp Gpos q r k l = places_cmp q.g r.g q.p q.o q.s r.p r.o r.s k.p k.o k.s l.p l.o l.s
key_cmp Gosp q r k l = places_cmp q.g r.g q.o q.s q.p r.o r.s r.p k.o k.s k.p l.o l.s l.p

-- ---- the quad of a key

front_is : (x a : ℕ) → a < 2 ^ 32 → with_place x a / 2 ^ 32 ≡ x
front_is x a h = div-mul-add x (2 ^ 32) a h

place_is : (x a : ℕ) → a < 2 ^ 32 → with_place x a % 2 ^ 32 ≡ a
place_is x a h = mod-mul-add x (2 ^ 32) a h

graph_is : (g : Option ℕ) → graph_of (graph_key g) ≡ g
graph_is None = refl
graph_is (Some n) = let e : n + 1 ≡ suc n = omega arith in ap graph_of e

places_are : (order : SortOrder) (g : Option ℕ) (a b c : ℕ) → a < 2 ^ 32 → b < 2 ^ 32 → c < 2 ^ 32
    → quad_of order (key_of_places (graph_key g) a b c) ≡ quad_of_places order g a b c
places_are order g a b c la lb lc =
    let ga = with_place (graph_key g) a in
    let gab = with_place ga b in
    let key = with_place gab c in
    let one : key / 2 ^ 32 ≡ gab = front_is gab c lc in
    let two : key / 2 ^ 32 / 2 ^ 32 ≡ ga = ap (λ n. n / 2 ^ 32) one ∙ front_is ga b lb in
    let three : key / 2 ^ 32 / 2 ^ 32 / 2 ^ 32 ≡ graph_key g = ap (λ n. n / 2 ^ 32) two ∙ front_is (graph_key g) a la in
    let at_a : key / 2 ^ 32 / 2 ^ 32 % 2 ^ 32 ≡ a = ap (λ n. n % 2 ^ 32) two ∙ place_is (graph_key g) a la in
    let at_b : key / 2 ^ 32 % 2 ^ 32 ≡ b = ap (λ n. n % 2 ^ 32) one ∙ place_is ga b lb in
    let at_c : key % 2 ^ 32 ≡ c = place_is gab c lc in
    let at_g : graph_of (key / 2 ^ 32 / 2 ^ 32 / 2 ^ 32) ≡ g = ap graph_of three ∙ graph_is g in
    λ i. quad_of_places order (at_g i) (at_a i) (at_b i) (at_c i)

pub quad_is : (order : SortOrder) (q : NumQuad) → IsSmall q → quad_of order (key_of order q) ≡ q
quad_is Gspo q k = places_are Gspo q.g q.s q.p q.o k.s k.p k.o
quad_is Gpos q k = places_are Gpos q.g q.p q.o q.s k.p k.o k.s
quad_is Gosp q k = places_are Gosp q.g q.o q.s q.p k.o k.s k.p

-- ---- the key of a quad of a key

whole_is : (n : ℕ) → with_place (n / 2 ^ 32) (n % 2 ^ 32) ≡ n
whole_is n = div-add-mod' n (2 ^ 32)

low_is : (n : ℕ) → n % 2 ^ 32 < 2 ^ 32
low_is n = mod_below n (2 ^ 32) (omega arith)

-- without the lowest place
front_fits : (n m : ℕ) → n < m * 2 ^ 32 → n / 2 ^ 32 < m
front_fits n m h = div_below n (2 ^ 32) m (omega arith) h

key_graph : (k : ℕ) → graph_key (graph_of k) ≡ k
key_graph zero = refl
key_graph (suc g) = omega arith

small_graph : (k : ℕ) → k < 2 ^ 32 → ForSome (graph_of k) (λ g. g + 1 < 2 ^ 32)
small_graph zero h = λ g e. cc
small_graph (suc k) h = λ g e. let same : k ≡ g = cc in omega (arith, same)

module _ (key : ℕ) where
  places_again : key_of_places (graph_key (graph_of (graph_key_of key))) (key / 2 ^ 32 / 2 ^ 32 % 2 ^ 32) (key / 2 ^ 32 % 2 ^ 32) (key % 2 ^ 32) ≡ key
  places_again =
      let b = key / 2 ^ 32 in
      let a = b / 2 ^ 32 in
      let front : with_place (graph_key (graph_of (graph_key_of key))) (a % 2 ^ 32) ≡ a = ap (λ g. with_place g (a % 2 ^ 32)) (key_graph (graph_key_of key)) ∙ whole_is a in
      let middle : with_place (with_place (graph_key (graph_of (graph_key_of key))) (a % 2 ^ 32)) (b % 2 ^ 32) ≡ b = ap (λ g. with_place g (b % 2 ^ 32)) front ∙ whole_is b in
      ap (λ g. with_place g (key % 2 ^ 32)) middle ∙ whole_is key

  graph_fits : key < 2 ^ 128 → graph_key_of key < 2 ^ 32
  graph_fits h =
      let one : key / 2 ^ 32 < 2 ^ 96 = front_fits key (2 ^ 96) (omega arith) in
      let two : key / 2 ^ 32 / 2 ^ 32 < 2 ^ 64 = front_fits (key / 2 ^ 32) (2 ^ 64) (omega (arith, one)) in
      front_fits (key / 2 ^ 32 / 2 ^ 32) (2 ^ 32) (omega (arith, two))

  -- the quad of each key is small
  pub small_is : (order : SortOrder) → key < 2 ^ 128 → IsSmall (quad_of order key)
  small_is Gspo h = record { g = small_graph (graph_key_of key) (graph_fits h); s = low_is (key / 2 ^ 32 / 2 ^ 32); p = low_is (key / 2 ^ 32); o = low_is key }
  small_is Gpos h = record { g = small_graph (graph_key_of key) (graph_fits h); s = low_is key; p = low_is (key / 2 ^ 32 / 2 ^ 32); o = low_is (key / 2 ^ 32) }
  small_is Gosp h = record { g = small_graph (graph_key_of key) (graph_fits h); s = low_is (key / 2 ^ 32); p = low_is key; o = low_is (key / 2 ^ 32 / 2 ^ 32) }

  key_again : (order : SortOrder) → key_of order (quad_of order key) ≡ key
  key_again Gspo = places_again
  key_again Gpos = places_again
  key_again Gosp = places_again

-- ---- lists of keys

-- the key of a small quad
abbrev IsKey : SortOrder → ℕ → Type 0
IsKey order key = IsSmall (quad_of order key) × (key_of order (quad_of order key) ≡ key)

are_keys : (order : SortOrder) (keys : List ℕ) → AreKeys keys → All (IsKey order) keys
are_keys order keys h = λ i d low. let key = get_or keys i d in (small_is key order (h i d low), key_again key order)

module _ (order : SortOrder) where
  abbrev f : ℕ → NumQuad
  f key = quad_of order key

  keyed_cmp : (k l : ℕ) → IsKey order k → IsKey order l → order_cmp order (f k) (f l) ≡ nat_cmp k l
  keyed_cmp k l a b = sym (key_cmp order (f k) (f l) a.0 b.0) ∙ (λ i. nat_cmp (a.1 i) (b.1 i))

  keyed_eq : (k l : ℕ) → IsKey order k → IsKey order l → quad_eq (f k) (f l) ≡ nat_eq k l
  keyed_eq k l a b = by (nat_eq k l) refl (quad_eq (f k) (f l)) refl
    where
      by : (x : Bool) → nat_eq k l ≡ x → (y : Bool) → quad_eq (f k) (f l) ≡ y → y ≡ x
      by true e true h = refl
      by false e false h = refl
      by true e false h = sym h ∙ (quad_decides (f k) (f l)).1 (ap f (eqb-true k l e))
      by false e true h =
          let same : k ≡ l = sym a.1 ∙ ap (key_of order) ((quad_decides (f k) (f l)).0 h) ∙ b.1 in
          absurd (true≢false (sym (eq-eqb k l same) ∙ e))

  pub get_mapped : (ks : List ℕ) (i : ℕ) (d : NumQuad) → i < length ks → get_or (map f ks) i d ≡ f (get_or ks i 0)
  get_mapped [] i d low = absurd (omega arith)
  get_mapped (k ∷ ks) zero d low = refl
  get_mapped (k ∷ ks) (suc i) d low = get_mapped ks i d (omega arith)

  sorted_mapped : (ks : List ℕ) → All (IsKey order) ks → IsSorted nat_cmp ks → IsSorted (order_cmp order) (map f ks)
  sorted_mapped ks all h i d low high =
      let n = length-map ks f in
      let here : i < length ks = omega (arith, n) in
      let next : i + 1 < length ks = omega (arith, n) in
      ap is_lt ((λ j. order_cmp order (get_mapped ks (i + 1) d next j) (get_mapped ks i d here j))
      ∙ keyed_cmp (get_or ks (i + 1) 0) (get_or ks i 0) (all (i + 1) 0 next) (all i 0 here))
      ∙ h i 0 low next

  dedup_from-mapped : (k : ℕ) (ks : List ℕ) → IsKey order k → All (IsKey order) ks → map f (dedup_from nat_eq k ks) ≡ dedup_from quad_eq (f k) (map f ks)
  dedup_from-mapped k [] a all = refl
  dedup_from-mapped k (l ∷ ks) a all =
      let b = All-head (IsKey order) l ks all in
      let rest = All-tail (IsKey order) l ks all in
      by (nat_eq l k) refl (keyed_eq l k b a) (dedup_from-mapped k ks a rest) (dedup_from-mapped l ks b rest)
    where
      by : (x : Bool) → nat_eq l k ≡ x → quad_eq (f l) (f k) ≡ nat_eq l k
          → map f (dedup_from nat_eq k ks) ≡ dedup_from quad_eq (f k) (map f ks) → map f (dedup_from nat_eq l ks) ≡ dedup_from quad_eq (f l) (map f ks)
          → map f (cond x (dedup_from nat_eq k ks) (k ∷ dedup_from nat_eq l ks)) ≡ cond (quad_eq (f l) (f k)) (dedup_from quad_eq (f k) (map f ks)) (f k ∷ dedup_from quad_eq (f l) (map f ks))
      by true e same stay go = stay ∙ ap (λ y. cond y (dedup_from quad_eq (f k) (map f ks)) (f k ∷ dedup_from quad_eq (f l) (map f ks))) (sym (same ∙ e))
      by false e same stay go = ap (λ qs. f k ∷ qs) go ∙ ap (λ y. cond y (dedup_from quad_eq (f k) (map f ks)) (f k ∷ dedup_from quad_eq (f l) (map f ks))) (sym (same ∙ e))

  dedup-mapped : (ks : List ℕ) → All (IsKey order) ks → map f (dedup nat_eq ks) ≡ dedup quad_eq (map f ks)
  dedup-mapped [] all = refl
  dedup-mapped (k ∷ ks) all = dedup_from-mapped k ks (All-head (IsKey order) k ks all) (All-tail (IsKey order) k ks all)

  -- the result of sorting the keys
  pub record IsPackedList (quads list : List NumQuad) : Type 0 where
    pub sorted : IsSorted (order_cmp order) list
    pub each_once : IsPermutation (without_repeats quad_eq quads) list
    pub distinct : IsWithoutRepeats quad_eq list

  packed : (quads xs list : List NumQuad) → list ≡ dedup quad_eq xs → IsPermutation quads xs → IsSorted (order_cmp order) xs → IsPackedList quads list
  packed quads xs list is moved sorted = record {
    sorted = subst (IsSorted (order_cmp order)) (sym is) (dedup_sorted quad_eq quad_decides (order_cmp order) (order_total order) (order_ties order) xs sorted);
    each_once = subst (IsPermutation (without_repeats quad_eq quads)) (sym is)
        (dedup_once_of quad_eq quad_decides (order_cmp order) (order_total order) (order_ties order) quads xs moved sorted);
    distinct = subst (IsWithoutRepeats quad_eq) (sym is) (dedup_distinct quad_eq quad_decides (order_cmp order) (order_total order) (order_ties order) xs sorted);
  }

  pub packed_list : (keys ks : List ℕ) (list : List NumQuad) → AreKeys keys → IsPermutation keys ks → IsSorted nat_cmp ks → list ≡ map f (dedup nat_eq ks)
      → IsPackedList (map f keys) list
  packed_list keys ks list fit moved sorted list_is =
      let all : All (IsKey order) ks = All-permutation (IsKey order) keys ks moved (are_keys order keys fit) in
      packed (map f keys) (map f ks) list (list_is ∙ dedup-mapped ks all) (IsPermutation-map f keys ks moved) (sorted_mapped ks all sorted)

-- ---- lists that are made item by item

pub mapped_more : {A B : Type 0} (f : A → B) (xs : List A) (i : ℕ) (d : A) (old new : List B) (y : B)
    → i < length xs → old ≡ map f (take i xs) → y ≡ f (get_or xs i d) → new ≡ old ++ y ∷ [] → new ≡ map f (take (i + 1) xs)
mapped_more f xs i d old new y low was is pushed =
    pushed ∙ (λ j. was j ++ is j ∷ []) ∙ sym (ap (map f) (take_more xs i d low) ∙ map-append f (take i xs) (get_or xs i d ∷ []))

pub mapped_all : {A B : Type 0} (f : A → B) (xs : List A) (i : ℕ) (ys : List B) → length xs ≤ i → ys ≡ map f (take i xs) → ys ≡ map f xs
mapped_all f xs i ys end was = was ∙ ap (map f) (take_all i xs end)

pub all_of : {A : Type 0} (P : A → Type 0) (xs : List A) (i : ℕ) → length xs ≤ i → All P (take i xs) → All P xs
all_of P xs i end h = subst (All P) (take_all i xs end) h

-- one more key in another order
pub anew_more : (from order : SortOrder) (keys : List ℕ) (i : ℕ) (packed longer : List ℕ) (key : ℕ) (q : NumQuad)
    → i < length keys → get_or keys i 0 < 2 ^ 128 → map (quad_of order) packed ≡ map (quad_of from) (take i keys) → q ≡ quad_of from (get_or keys i 0)
    → key ≡ key_of order q → longer ≡ packed ++ key ∷ [] → map (quad_of order) longer ≡ map (quad_of from) (take (i + 1) keys)
anew_more from order keys i packed longer key q low fit was q_is key_is pushed =
    let small : IsSmall q = subst IsSmall (sym q_is) (small_is (get_or keys i 0) from fit) in
    mapped_more (quad_of from) keys i 0 (map (quad_of order) packed) (map (quad_of order) longer) (quad_of order key) low was
    (ap (quad_of order) key_is ∙ quad_is order q small ∙ q_is) (ap (map (quad_of order)) pushed ∙ map-append (quad_of order) packed (key ∷ []))

-- the key of one more quad
pub keys_more : (order : SortOrder) (quads : List NumQuad) (i : ℕ) (d : NumQuad) (old keys longer : List ℕ) (key : ℕ)
    → i < length quads → IsSmall (get_or quads i d) → map (quad_of order) keys ≡ map (quad_of order) old ++ take i quads
    → key ≡ key_of order (get_or quads i d) → longer ≡ keys ++ key ∷ [] → map (quad_of order) longer ≡ map (quad_of order) old ++ take (i + 1) quads
keys_more order quads i d old keys longer key low small was key_is pushed =
    let q = get_or quads i d in
    let f = quad_of order in
    let is : f key ≡ q = ap f key_is ∙ quad_is order q small in
    ap (map f) pushed ∙ map-append f keys (key ∷ []) ∙ (λ j. was j ++ is j ∷ []) ∙ append_assoc (map f old) (take i quads) (q ∷ [])
    ∙ ap (λ r. map f old ++ r) (sym (take_more quads i d low))
