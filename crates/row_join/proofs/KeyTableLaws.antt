-- The hash table of keys: a search, and what another key changes.
use Rattle.std.proofs.Common.{◌≡◌, ◌≢◌, ℕ, zero, suc, ◌+◌, ◌-◌, ◌*◌, ◌<◌, ◌≤◌, Bool, true, false, not, cond, List, [], ◌∷◌, ◌++◌, length, get_or, set, replicate, Option, None, Some, MatchOption, refl, sym, ap, subst, ◌∙◌, arith, true≢false, inl, inr}
use Rattle.std.proofs.Math.Nat.{suc-mul, zero-mul}
use Rattle.std.proofs.lemmas.Bool.Decides.{eqb_tells}
use Rattle.std.proofs.lemmas.List.{length-append, length-set, get_or-append_right, get_or_append_left, get_or-replicate, get_or-set_same, get_or-set_other, take_all}
use Rattle.std.proofs.lemmas.List.Sums.{position_or_len_is}
use Rattle.std.proofs.lemmas.Slice.Eq.{bytes_eq-Decides}
use Rattle.row_core.specs.RowList.{rows_in}
use Rattle.row_core.proofs.RowSteps.{length-rows_in, rows_in-append}
use Rattle.row_join.specs.KeyTable.{AreLinks, IsKeyTable, IsLink, KeyList, place_of, same_numbers}

pub same_is : (a b : List ℕ) → same_numbers a b ≡ true → a ≡ b
same_is a b e = (bytes_eq-Decides a b).0 e

pub is_same : (a b : List ℕ) → a ≡ b → same_numbers a b ≡ true
is_same a b e = (bytes_eq-Decides a b).1 e

pub not_same : (a b : List ℕ) → a ≢ b → same_numbers a b ≡ false
not_same a b h = by (same_numbers a b) refl
  where
    by : (x : Bool) → same_numbers a b ≡ x → x ≡ false
    by true e = absurd (h (same_is a b e))
    by false e = refl

pub apart : (a b : List ℕ) → same_numbers a b ≡ false → a ≢ b
apart a b e h = true≢false (sym (is_same a b h) ∙ e)

-- what holds of a search among `count` keys: keys at or after the link are not the key
pub record IsSearched (bucket : List ℕ → ℕ) (keys : List (List ℕ)) (count : ℕ) (key : List ℕ) (link : ℕ) : Type 0 where
  pub low : link ≤ count
  pub here : (n : ℕ) → link ≡ n + 1 → bucket (get_or keys n []) ≡ bucket key
  pub later : (n : ℕ) → n < count → get_or keys n [] ≡ key → n < link

module _ (bucket : List ℕ → ℕ) (keys : List (List ℕ)) (buckets earlier : List ℕ) (table : IsKeyTable bucket keys buckets earlier) where
  pub search-start : (key : List ℕ) (b link : ℕ) → b ≡ bucket key → b < length buckets → link ≡ get_or buckets b 0 → IsSearched bucket keys (length earlier) key link
  search-start key b link e low is =
      let l = table.ends b low in
      subst (λ (x : ℕ). IsSearched bucket keys (length earlier) key x) (sym is)
      record {
        low = l.low;
        here = λ n h. l.here n h ∙ e;
        later = λ n h k. l.last n h (ap bucket k ∙ sym e);
      }

  pub search-next : (key other : List ℕ) (at link : ℕ) → 0 < at → IsSearched bucket keys (length earlier) key at
      → get_or keys (at - 1) [] ≡ other → same_numbers other key ≡ false → link ≡ get_or earlier (at - 1) 0 → IsSearched bucket keys (length earlier) key link
  search-next key other at link some was o differ is =
      let below_count : at ≤ length earlier = was.low in
      let l = table.links (at - 1) (omega arith) in
      let b : bucket (get_or keys (at - 1) []) ≡ bucket key = was.here (at - 1) (omega arith) in
      subst (λ (x : ℕ). IsSearched bucket keys (length earlier) key x) (sym is)
      record {
        low = let h = l.low in omega arith;
        here = λ n h. l.here n h ∙ b;
        later = λ n h k.
            let below = was.later n h k in
            let other_place : n ≢ at - 1 = λ m. apart other key differ (sym o ∙ ap (λ (x : ℕ). get_or keys x []) (sym m) ∙ k) in
            l.last n (omega (arith, other_place)) (ap bucket k ∙ sym b);
      }

  -- the next link is nearer to the end of the search
  pub link-below : (at : ℕ) → 0 < at → at ≤ length earlier → get_or earlier (at - 1) 0 < at
  link-below at some low =
      let h = (table.links (at - 1) (omega arith)).low in
      omega arith

  -- the key is found
  pub found-place : (key other : List ℕ) (n : ℕ) → n < length keys → get_or keys n [] ≡ other → same_numbers other key ≡ true → n ≡ place_of key keys
  found-place key other n low o e =
      let is : get_or keys n [] ≡ key = o ∙ same_is other key e in
      sym (position_or_len_is (same_numbers key) keys n [] (omega arith)
      (λ k h. not_same key (get_or keys k []) (λ m. table.distinct k n h low (sym m ∙ sym is)))
      (λ _. is_same key (get_or keys n []) (sym is)))

  -- the search ends without it
  pub no-place : (key : List ℕ) (link : ℕ) → link ≤ 0 → length keys ≡ length earlier → IsSearched bucket keys (length earlier) key link → length earlier ≡ place_of key keys
  no-place key link z long was =
      sym long
      ∙ sym (position_or_len_is (same_numbers key) keys (length keys) [] (omega arith)
      (λ k h. not_same key (get_or keys k []) (λ m. let l = was.later k (omega arith) (sym m) in absurd (omega arith)))
      (λ h. absurd (omega arith)))

-- a search in the fields, as one in the value that they show
pub search-shown : (w : ℕ) (numbers earlier key : List ℕ) (v : KeyList) → record { width = w; keys = rows_in w w (length earlier) numbers } ≡ v → (r : Option ℕ)
    → MatchOption r (length earlier ≡ place_of key (rows_in w w (length earlier) numbers)) (λ n. (n ≡ place_of key (rows_in w w (length earlier) numbers)) × (n < length earlier))
    → MatchOption r (length v.keys ≡ place_of key v.keys) (λ n. (n ≡ place_of key v.keys) × (n < length v.keys))
search-shown w numbers earlier key v is r h =
    subst (λ (k : KeyList). MatchOption r (length k.keys ≡ place_of key k.keys) (λ n. (n ≡ place_of key k.keys) × (n < length k.keys))) is (by r h)
  where
    count : length (rows_in w w (length earlier) numbers) ≡ length earlier
    count = length-rows_in w w (length earlier) numbers

    by : (r : Option ℕ) → MatchOption r (length earlier ≡ place_of key (rows_in w w (length earlier) numbers)) (λ n. (n ≡ place_of key (rows_in w w (length earlier) numbers)) × (n < length earlier))
        → MatchOption r (length (rows_in w w (length earlier) numbers) ≡ place_of key (rows_in w w (length earlier) numbers)) (λ n. (n ≡ place_of key (rows_in w w (length earlier) numbers)) × (n < length (rows_in w w (length earlier) numbers)))
    by None e = count ∙ e
    by (Some n) e = (e.0, let low = e.1 in omega (arith, count))

-- no key before its place is the key
pub before-place : (key : List ℕ) (keys : List (List ℕ)) (n : ℕ) → n < place_of key keys → get_or keys n [] ≢ key
before-place key [] n h = absurd (omega arith)
before-place key (k ∷ keys) n h = by (same_numbers key k) refl n h (before-place key keys)
  where
    by : (b : Bool) → same_numbers key k ≡ b → (n : ℕ) → n < cond (not b) (1 + place_of key keys) 0
        → ((m : ℕ) → m < place_of key keys → get_or keys m [] ≢ key) → get_or (k ∷ keys) n [] ≢ key
    by true e n h rest = absurd (omega arith)
    by false e zero h rest = λ m. apart key k e (sym m)
    by false e (suc n) h rest = rest n (omega arith)

module _ (keys : List (List ℕ)) (key : List ℕ) where
  old_key : (n : ℕ) → n < length keys → get_or (keys ++ key ∷ []) n [] ≡ get_or keys n []
  old_key n h = get_or_append_left keys (key ∷ []) [] n h

  new_key : (n : ℕ) → n ≡ length keys → get_or (keys ++ key ∷ []) n [] ≡ key
  new_key n h =
      let z : n - length keys ≡ 0 = omega arith in
      get_or-append_right keys (key ∷ []) (length keys) n [] refl (omega arith) ∙ ap (λ (x : ℕ). get_or (key ∷ []) x []) z

  -- a link among the old keys
  old_link : (bucket : List ℕ → ℕ) (b limit link : ℕ) → limit ≤ length keys → IsLink bucket keys b limit link → IsLink bucket (keys ++ key ∷ []) b limit link
  old_link bucket b limit link h l =
      let low = l.low in
      record {
        low = low;
        here = λ n e. ap bucket (old_key n (omega arith)) ∙ l.here n e;
        last = λ n k e. l.last n k (ap bucket (sym (old_key n (omega arith))) ∙ e);
      }

-- a table with another key
pub table-added : (bucket : List ℕ → ℕ) (keys : List (List ℕ)) (key : List ℕ) (buckets earlier : List ℕ) (b : ℕ) → length keys ≡ length earlier → IsKeyTable bucket keys buckets earlier
    → b ≡ bucket key → b < length buckets → length keys ≡ place_of key keys
    → IsKeyTable bucket (keys ++ key ∷ []) (set buckets b (length earlier + 1)) (earlier ++ get_or buckets b 0 ∷ [])
table-added bucket keys key buckets earlier b long table is low new =
    record {
      some = let e = length-set buckets b (length earlier + 1) in let h = table.some in omega arith;
      ends = ends;
      links = links;
      distinct = distinct;
    }
  where
    count : length (earlier ++ get_or buckets b 0 ∷ []) ≡ length earlier + 1
    count = length-append earlier (get_or buckets b 0 ∷ [])

    all_keys : length (keys ++ key ∷ []) ≡ length keys + 1
    all_keys = length-append keys (key ∷ [])

    ends : (x : ℕ) → x < length (set buckets b (length earlier + 1)) → IsLink bucket (keys ++ key ∷ []) x (length (earlier ++ get_or buckets b 0 ∷ [])) (get_or (set buckets b (length earlier + 1)) x 0)
    ends x h =
        let inside : x < length buckets = let e = length-set buckets b (length earlier + 1) in omega arith in
        elim (eqb_tells x b) [
          | inl t ↦
              let here : get_or (set buckets b (length earlier + 1)) x 0 ≡ length earlier + 1 =
              ap (λ (y : ℕ). get_or (set buckets b (length earlier + 1)) y 0) t.1 ∙ get_or-set_same buckets b (length earlier + 1) 0 low in
              subst (λ (l : ℕ). IsLink bucket (keys ++ key ∷ []) x (length (earlier ++ get_or buckets b 0 ∷ [])) l) (sym here)
              record {
                low = omega (arith, count);
                here = λ n e. ap bucket (new_key keys key n (omega arith)) ∙ sym is ∙ sym t.1;
                last = λ n k e. omega (arith, count);
              }
          | inr t ↦
              let here : get_or (set buckets b (length earlier + 1)) x 0 ≡ get_or buckets x 0 = get_or-set_other buckets b x (length earlier + 1) 0 t.1 in
              let l = old_link keys key bucket x (length earlier) (get_or buckets x 0) (omega arith) (table.ends x inside) in
              let l_low = l.low in
              subst (λ (y : ℕ). IsLink bucket (keys ++ key ∷ []) x (length (earlier ++ get_or buckets b 0 ∷ [])) y) (sym here)
              record {
                low = omega (arith, count);
                here = l.here;
                last = λ n k e.
                    elim (eqb_tells n (length keys)) [
                      | inl s ↦ absurd (t.1 (sym e ∙ ap bucket (new_key keys key n s.1) ∙ sym is))
                      | inr s ↦ let other = s.1 in l.last n (omega (arith, count, other)) e
                    ];
              }
        ]

    links : AreLinks bucket (keys ++ key ∷ []) (earlier ++ get_or buckets b 0 ∷ [])
    links i h =
        elim (eqb_tells i (length earlier)) [
          | inl t ↦
              let at : i ≡ length keys = t.1 ∙ sym long in
              let z : i - length earlier ≡ 0 = let e = t.1 in omega arith in
              let here : get_or (earlier ++ get_or buckets b 0 ∷ []) i 0 ≡ get_or buckets b 0 =
              get_or-append_right earlier (get_or buckets b 0 ∷ []) (length earlier) i 0 refl (let e = t.1 in omega arith) ∙ ap (λ (x : ℕ). get_or (get_or buckets b 0 ∷ []) x 0) z in
              let own : b ≡ bucket (get_or (keys ++ key ∷ []) i []) = is ∙ ap bucket (sym (new_key keys key i at)) in
              subst (λ (l : ℕ). IsLink bucket (keys ++ key ∷ []) (bucket (get_or (keys ++ key ∷ []) i [])) i l) (sym here)
              (subst (λ (x : ℕ). IsLink bucket (keys ++ key ∷ []) x i (get_or buckets b 0)) own
              (subst (λ (x : ℕ). IsLink bucket (keys ++ key ∷ []) b x (get_or buckets b 0)) (sym t.1)
              (old_link keys key bucket b (length earlier) (get_or buckets b 0) (omega arith) (table.ends b low))))
          | inr t ↦
              let other = t.1 in
              let inside : i < length earlier = omega (arith, count, other) in
              let here : get_or (earlier ++ get_or buckets b 0 ∷ []) i 0 ≡ get_or earlier i 0 = get_or_append_left earlier (get_or buckets b 0 ∷ []) 0 i inside in
              let own : bucket (get_or keys i []) ≡ bucket (get_or (keys ++ key ∷ []) i []) = ap bucket (sym (old_key keys key i (omega arith))) in
              subst (λ (l : ℕ). IsLink bucket (keys ++ key ∷ []) (bucket (get_or (keys ++ key ∷ []) i [])) i l) (sym here)
              (subst (λ (x : ℕ). IsLink bucket (keys ++ key ∷ []) x i (get_or earlier i 0)) own
              (old_link keys key bucket (bucket (get_or keys i [])) i (get_or earlier i 0) (omega arith) (table.links i inside)))
        ]

    distinct : (n i : ℕ) → n < i → i < length (keys ++ key ∷ []) → get_or (keys ++ key ∷ []) n [] ≢ get_or (keys ++ key ∷ []) i []
    distinct n i h k m =
        elim (eqb_tells i (length keys)) [
          | inl t ↦
              let e = t.1 in
              before-place key keys n (omega arith) (sym (old_key keys key n (omega arith)) ∙ m ∙ new_key keys key i t.1)
          | inr t ↦
              let other = t.1 in
              let inside : i < length keys = omega (arith, all_keys, other) in
              table.distinct n i h inside (sym (old_key keys key n (omega arith)) ∙ m ∙ old_key keys key i inside)
        ]

-- a table without keys
pub table-empty : (bucket : List ℕ → ℕ) (n : ℕ) (buckets : List ℕ) → buckets ≡ replicate n 0 → 0 < length buckets → n ≡ length buckets → IsKeyTable bucket [] buckets []
table-empty bucket n buckets e some long =
    record {
      some = some;
      ends = λ b h.
          let z : get_or buckets b 0 ≡ 0 = ap (λ (l : List ℕ). get_or l b 0) e ∙ get_or-replicate n b 0 0 (omega arith) in
          record { low = omega arith; here = λ k l. absurd (omega arith); last = λ k l m. absurd (omega arith) };
      links = λ i h. absurd (omega arith);
      distinct = λ k i h l. absurd (omega arith);
    }

-- the buffer with the numbers of another key
pub keys-pushed : (w n : ℕ) (numbers key all : List ℕ) → length numbers ≡ n * w → length key ≡ w → all ≡ numbers ++ key → rows_in w w (n + 1) all ≡ rows_in w w n numbers ++ key ∷ []
keys-pushed w n numbers key all long wide is =
    ap (rows_in w w (n + 1)) is
    ∙ rows_in-append w w n 1 numbers key (omega arith) long
    ∙ ap (λ (k : List ℕ). rows_in w w n numbers ++ k ∷ []) (take_all w key (omega arith))

-- the fields of a new table
pub table-new : (bucket : List ℕ → ℕ) (w n : ℕ) (numbers buckets earlier : List ℕ) → numbers ≡ [] → earlier ≡ [] → buckets ≡ replicate n 0 → 0 < n → n ≡ length buckets
    → (length numbers ≡ length earlier * w) × IsKeyTable bucket (rows_in w w (length earlier) numbers) buckets earlier
table-new bucket w n numbers buckets earlier e f g some long =
    subst (λ (l : List ℕ). (length numbers ≡ length l * w) × IsKeyTable bucket (rows_in w w (length l) numbers) buckets l) (sym f)
    (ap length e ∙ sym (zero-mul w), table-empty bucket n buckets g (omega arith) long)

-- the fields of a table with another key
module _ (w : ℕ) (numbers earlier key numbers' earlier' : List ℕ) (long : length numbers ≡ length earlier * w) (wide : length key ≡ w) (link : ℕ) (n : numbers' ≡ numbers ++ key) (e : earlier' ≡ earlier ++ link ∷ []) where
  more : length earlier' ≡ length earlier + 1
  more = ap length e ∙ length-append earlier (link ∷ [])

  pub keys-more : rows_in w w (length earlier') numbers' ≡ rows_in w w (length earlier) numbers ++ key ∷ []
  keys-more = ap (λ (k : ℕ). rows_in w w k numbers') more ∙ keys-pushed w (length earlier) numbers key numbers' long wide n

  pub long-more : length numbers' ≡ length earlier' * w
  long-more =
      let s : suc (length earlier) * w ≡ length earlier * w + w = suc-mul (length earlier) w in
      let t : length earlier + 1 ≡ suc (length earlier) = omega arith in
      ap length n ∙ length-append numbers key ∙ (λ j. long j + wide j) ∙ sym s ∙ ap (λ (k : ℕ). k * w) (sym (more ∙ t))

  pub table-more : (bucket : List ℕ → ℕ) (buckets buckets' : List ℕ) (b : ℕ) → IsKeyTable bucket (rows_in w w (length earlier) numbers) buckets earlier
      → b ≡ bucket key → b < length buckets → length earlier ≡ place_of key (rows_in w w (length earlier) numbers)
      → link ≡ get_or buckets b 0 → buckets' ≡ set buckets b (length earlier + 1)
      → IsKeyTable bucket (rows_in w w (length earlier') numbers') buckets' earlier'
  table-more bucket buckets buckets' b table is low absent l s =
      let count = length-rows_in w w (length earlier) numbers in
      let links : earlier' ≡ earlier ++ get_or buckets b 0 ∷ [] = e ∙ ap (λ (k : ℕ). earlier ++ k ∷ []) l in
      subst (λ (ks : List (List ℕ)). IsKeyTable bucket ks buckets' earlier') (sym keys-more)
      (subst (λ (xs : List ℕ). IsKeyTable bucket (rows_in w w (length earlier) numbers ++ key ∷ []) xs earlier') (sym s)
      (subst (λ (xs : List ℕ). IsKeyTable bucket (rows_in w w (length earlier) numbers ++ key ∷ []) (set buckets b (length earlier + 1)) xs) (sym links)
      (table-added bucket (rows_in w w (length earlier) numbers) key buckets earlier b count table is low (count ∙ absent))))
