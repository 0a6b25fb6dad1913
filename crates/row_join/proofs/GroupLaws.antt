-- Groups under their keys: the contents of one group, and what adding a place changes.
use Rattle.std.proofs.Common.{◌≡◌, ℕ, suc, ◌+◌, ◌<◌, Bool, true, false, not, cond, ◌||◌, List, [], ◌∷◌, ◌++◌, length, map, set, get_or, if◌then◌else◌, refl, sym, ap, subst, ◌∙◌, true≢false, arith}
use Rattle.std.specs.List.{list_any}
use Rattle.std.proofs.lemmas.Cmp.{nat_list_eq_equiv}
use Rattle.std.proofs.lemmas.List.{append-nil, length-map, get_or-map, get_or_past}
use Rattle.row_join.specs.Places.{group_in, place_if}
use Rattle.row_join.specs.KeyTable.{place_of, same_numbers, with_key}

-- the group of numbers is the one at their place
pub group_in-at : (keys groups : List (List ℕ)) (n : List ℕ) → length keys ≡ length groups → group_in keys groups n ≡ get_or groups (place_of n keys) []
group_in-at [] [] n h = refl
group_in-at [] (g ∷ groups) n h = absurd (omega arith)
group_in-at (k ∷ keys) [] n h = absurd (omega arith)
group_in-at (k ∷ keys) (g ∷ groups) n h = by (same_numbers n k) (group_in-at keys groups n (omega arith))
  where
    by : (b : Bool) → group_in keys groups n ≡ get_or groups (place_of n keys) []
        → (if b then g else group_in keys groups n) ≡ get_or (g ∷ groups) (cond (not b) (1 + place_of n keys) 0) []
    by true e = refl
    by false e = let s : suc (place_of n keys) ≡ 1 + place_of n keys = omega arith in e ∙ ap (λ k. get_or (g ∷ groups) k []) s

-- equal numbers have equal results
congruent : (n k found : List ℕ) → same_numbers n k ≡ true → same_numbers found k ≡ same_numbers found n
congruent n k found e =
    nat_list_eq_equiv.symm found k ∙ sym (nat_list_eq_equiv.congr n k found e) ∙ nat_list_eq_equiv.symm n found

other : (n k found : List ℕ) → same_numbers n k ≡ false → same_numbers found k ≡ true → same_numbers found n ≡ false
other n k found e f = by (same_numbers found n) refl
  where
    by : (b : Bool) → same_numbers found n ≡ b → b ≡ false
    by true g = absurd (true≢false (sym f ∙ nat_list_eq_equiv.congr found n k g ∙ e))
    by false g = refl

module _ (n : List ℕ) (place : ℕ) (found : List ℕ) where
  -- adding a place under numbers that are a key
  pub added_to : (keys groups : List (List ℕ)) → length keys ≡ length groups → list_any (same_numbers n) keys ≡ true
      → group_in keys (set groups (place_of n keys) (get_or groups (place_of n keys) [] ++ place ∷ [])) found
      ≡ group_in keys groups found ++ place_if (same_numbers found n) place
  added_to [] groups h there = absurd (true≢false (sym there))
  added_to (k ∷ keys) [] h there = absurd (omega arith)
  added_to (k ∷ keys) (g ∷ groups) h there = by (same_numbers n k) refl there (added_to keys groups (omega arith))
    where
      here : (b : Bool) → (if b then g ++ place ∷ [] else group_in keys groups found) ≡ (if b then g else group_in keys groups found) ++ place_if b place
      here true = refl
      here false = sym (append-nil (group_in keys groups found))

      there_is : (b : Bool) (more : List (List ℕ)) → (b ≡ true → same_numbers found n ≡ false)
          → group_in keys more found ≡ group_in keys groups found ++ place_if (same_numbers found n) place
          → (if b then g else group_in keys more found) ≡ (if b then g else group_in keys groups found) ++ place_if (same_numbers found n) place
      there_is true more apart e = sym (ap (λ b. g ++ place_if b place) (apart refl) ∙ append-nil g)
      there_is false more apart e = e

      by : (b : Bool) → same_numbers n k ≡ b → (b || list_any (same_numbers n) keys) ≡ true
          → (list_any (same_numbers n) keys ≡ true → group_in keys (set groups (place_of n keys) (get_or groups (place_of n keys) [] ++ place ∷ [])) found
          ≡ group_in keys groups found ++ place_if (same_numbers found n) place)
          → group_in (k ∷ keys) (set (g ∷ groups) (cond (not b) (1 + place_of n keys) 0) (get_or (g ∷ groups) (cond (not b) (1 + place_of n keys) 0) [] ++ place ∷ [])) found
          ≡ group_in (k ∷ keys) (g ∷ groups) found ++ place_if (same_numbers found n) place
      by true e t rest =
          here (same_numbers found k) ∙ ap (λ b. (if same_numbers found k then g else group_in keys groups found) ++ place_if b place) (congruent n k found e)
      by false e t rest =
          let s : suc (place_of n keys) ≡ 1 + place_of n keys = omega arith in
          subst (λ (j : ℕ). group_in (k ∷ keys) (set (g ∷ groups) j (get_or (g ∷ groups) j [] ++ place ∷ [])) found ≡ group_in (k ∷ keys) (g ∷ groups) found ++ place_if (same_numbers found n) place) s
          (there_is (same_numbers found k) (set groups (place_of n keys) (get_or groups (place_of n keys) [] ++ place ∷ [])) (other n k found e) (rest t))

  -- adding the first place under new numbers
  pub added_new : (keys groups : List (List ℕ)) → length keys ≡ length groups → list_any (same_numbers n) keys ≡ false
      → group_in (keys ++ n ∷ []) (set (groups ++ [] ∷ []) (place_of n keys) (get_or (groups ++ [] ∷ []) (place_of n keys) [] ++ place ∷ [])) found
      ≡ group_in keys groups found ++ place_if (same_numbers found n) place
  added_new [] [] h new = refl
  added_new [] (g ∷ groups) h new = absurd (omega arith)
  added_new (k ∷ keys) [] h new = absurd (omega arith)
  added_new (k ∷ keys) (g ∷ groups) h new = by (same_numbers n k) refl new (added_new keys groups (omega arith))
    where
      more : List (List ℕ)
      more = set (groups ++ [] ∷ []) (place_of n keys) (get_or (groups ++ [] ∷ []) (place_of n keys) [] ++ place ∷ [])

      there_is : (b : Bool) (x : List ℕ) → (b ≡ true → same_numbers found n ≡ false)
          → x ≡ group_in keys groups found ++ place_if (same_numbers found n) place
          → (if b then g else x) ≡ (if b then g else group_in keys groups found) ++ place_if (same_numbers found n) place
      there_is true x apart e = sym (ap (λ b. g ++ place_if b place) (apart refl) ∙ append-nil g)
      there_is false x apart e = e

      by : (b : Bool) → same_numbers n k ≡ b → (b || list_any (same_numbers n) keys) ≡ false
          → (list_any (same_numbers n) keys ≡ false → group_in (keys ++ n ∷ []) (set (groups ++ [] ∷ []) (place_of n keys) (get_or (groups ++ [] ∷ []) (place_of n keys) [] ++ place ∷ [])) found
          ≡ group_in keys groups found ++ place_if (same_numbers found n) place)
          → group_in (k ∷ keys ++ n ∷ []) (set (g ∷ groups ++ [] ∷ []) (cond (not b) (1 + place_of n keys) 0) (get_or (g ∷ groups ++ [] ∷ []) (cond (not b) (1 + place_of n keys) 0) [] ++ place ∷ [])) found
          ≡ group_in (k ∷ keys) (g ∷ groups) found ++ place_if (same_numbers found n) place
      by true e t rest = absurd (true≢false t)
      by false e t rest =
          let s : suc (place_of n keys) ≡ 1 + place_of n keys = omega arith in
          subst (λ (j : ℕ). group_in (k ∷ keys ++ n ∷ []) (set (g ∷ groups ++ [] ∷ []) j (get_or (g ∷ groups ++ [] ∷ []) j [] ++ place ∷ [])) found ≡ group_in (k ∷ keys) (g ∷ groups) found ++ place_if (same_numbers found n) place) s
          (there_is (same_numbers found k) (group_in (keys ++ n ∷ []) (set (groups ++ [] ∷ []) (place_of n keys) (get_or (groups ++ [] ∷ []) (place_of n keys) [] ++ place ∷ [])) found) (other n k found e) (rest t))

-- the place of a key that occurs, and of one that does not
occurs : (n : List ℕ) (keys : List (List ℕ)) → place_of n keys < length keys → list_any (same_numbers n) keys ≡ true
occurs n [] h = absurd (omega arith)
occurs n (k ∷ keys) h = by (same_numbers n k) h (occurs n keys)
  where
    by : (b : Bool) → cond (not b) (1 + place_of n keys) 0 < suc (length keys)
        → (place_of n keys < length keys → list_any (same_numbers n) keys ≡ true) → (b || list_any (same_numbers n) keys) ≡ true
    by true h rest = refl
    by false h rest = rest (omega arith)

never : (n : List ℕ) (keys : List (List ℕ)) → length keys ≡ place_of n keys → list_any (same_numbers n) keys ≡ false
never n [] e = refl
never n (k ∷ keys) e = by (same_numbers n k) e (never n keys)
  where
    by : (b : Bool) → suc (length keys) ≡ cond (not b) (1 + place_of n keys) 0
        → (length keys ≡ place_of n keys → list_any (same_numbers n) keys ≡ false) → (b || list_any (same_numbers n) keys) ≡ false
    by true e rest = absurd (omega arith)
    by false e rest = rest (omega arith)

pub with_key-old : (keys : List (List ℕ)) (n : List ℕ) → place_of n keys < length keys → with_key keys n ≡ keys
with_key-old keys n h = ap (λ b. if b then keys else keys ++ n ∷ []) (occurs n keys h)

pub with_key-new : (keys : List (List ℕ)) (n : List ℕ) → length keys ≡ place_of n keys → with_key keys n ≡ keys ++ n ∷ []
with_key-new keys n e = ap (λ b. if b then keys else keys ++ n ∷ []) (never n keys e)

module _ {W : Type 0} (h : W → List ℕ) where
  -- what a look-up finds
  pub found_group : (keys : List (List ℕ)) (groups : List W) (n : List ℕ) (at : ℕ) (d : W) → length keys ≡ length groups → at ≡ place_of n keys → at < length keys
      → h (get_or groups at d) ≡ group_in keys (map h groups) n
  found_group keys groups n at d e a low =
      let lg = length-map groups h in
      sym (get_or-map h groups at d [] (omega arith))
      ∙ ap (λ (k : ℕ). get_or (map h groups) k []) a
      ∙ sym (group_in-at keys (map h groups) n (omega arith))

  pub no_group : (keys : List (List ℕ)) (groups : List W) (n : List ℕ) → length keys ≡ length groups → length keys ≡ place_of n keys
      → [] ≡ group_in keys (map h groups) n
  no_group keys groups n e p =
      let lg = length-map groups h in
      sym (get_or_past (map h groups) (place_of n keys) [] (omega arith))
      ∙ sym (group_in-at keys (map h groups) n (omega arith))

module _ (keys keys' : List (List ℕ)) (n : List ℕ) (groups new : List (List ℕ)) (at place : ℕ) (long : length keys ≡ length groups) (all : keys' ≡ with_key keys n) (a : at ≡ place_of n keys) where
  -- what adding a place under a key changes
  pub place_added-old : at < length keys → new ≡ set groups at (get_or groups at [] ++ place ∷ [])
      → (found : List ℕ) → group_in keys' new found ≡ group_in keys groups found ++ place_if (same_numbers found n) place
  place_added-old low m found =
      let low' : place_of n keys < length keys = omega arith in
      (λ j. group_in ((all ∙ with_key-old keys n low') j) ((m ∙ ap (λ (k : ℕ). set groups k (get_or groups k [] ++ place ∷ [])) a) j) found)
      ∙ added_to n place found keys groups long (occurs n keys low')

  pub place_added-new : at ≡ length keys → new ≡ set (groups ++ [] ∷ []) at (get_or (groups ++ [] ∷ []) at [] ++ place ∷ [])
      → (found : List ℕ) → group_in keys' new found ≡ group_in keys groups found ++ place_if (same_numbers found n) place
  place_added-new e m found =
      let none : length keys ≡ place_of n keys = sym e ∙ a in
      (λ j. group_in ((all ∙ with_key-new keys n none) j) ((m ∙ ap (λ (k : ℕ). set (groups ++ [] ∷ []) k (get_or (groups ++ [] ∷ []) k [] ++ place ∷ [])) a) j) found)
      ∙ added_new n place found keys groups long (never n keys none)
