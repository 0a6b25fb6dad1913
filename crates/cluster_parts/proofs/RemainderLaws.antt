-- The partition of a key is a key of the same partition.
use Rattle.std.proofs.Common.{◌≡◌, ℕ, ◌+◌, ◌*◌, ◌<◌, ◌%◌, ◌==◌, Bool, true, false, cond, if◌then◌else◌, List, [], ◌∷◌, ◌++◌, length, map, filter, take, get_or, slice_get, Option, None, Some, is_none, refl, sym, ap, ◌∙◌, arith}
use Rattle.std.specs.Option.{option_map}
use Rattle.std.proofs.lemmas.List.{get_or-map, take_more}
use Rattle.std.proofs.lemmas.List.Elements.{filter-append}
use Rattle.std.proofs.lemmas.Option.{slice_get_within}
use Rattle.std.proofs.lemmas.Nat.{mod-mul-add, mod_below}
use Rattle.rdf_core.specs.QuadParts.{QuadParts}
use Rattle.dict_core.specs.declared.num_quad.NumQuad.{NumQuad}
use Rattle.text_pieces.specs.Forms.{AreNumberedBy}
use Rattle.cluster_parts.specs.Hash.{hash}
use Rattle.cluster_parts.specs.Keys.{key_by_numbers, key_of, reduced_key, remainders}
use Rattle.cluster_parts.specs.Output.{quads_part}
use Rattle.cluster_parts.specs.Parts.{has_key, is_in, quad_document, texts_below}
use Rattle.cluster_parts.specs.Seal.{sealed}
use Rattle.cluster_parts.specs.declared.key_splits.QuadKey.{QuadKey}
use Rattle.cluster_parts.specs.declared.key_splits.QuadKey.TheVariants.{Subject, Graph}
use Rattle.cluster_parts.proofs.PartSteps.{at_place, graph_keys_are, subject_keys_are}

pub remainder_below : (h k : ℕ) → h < k → h % k ≡ h
remainder_below h k low =
    let e : h ≡ 0 * k + h = omega arith in
    ap (λ n. n % k) e ∙ mod-mul-add 0 k h low

pub map_twice : {A B C : Type 0} (f : B → C) (g : A → B) (xs : List A) → map f (map g xs) ≡ map (λ x. f (g x)) xs
map_twice f g [] = refl
map_twice f g (x ∷ xs) = ap (λ l. f (g x) ∷ l) (map_twice f g xs)

-- the keys of the quads of a block
quad_keys_are : (kind : QuadKey) (quads : List QuadParts) (texts : List (List ℕ)) (numbered : List NumQuad) (hashes : List ℕ) → AreNumberedBy quads texts numbered → hashes ≡ map hash texts
    → map (key_by_numbers kind hashes) numbered ≡ map (key_of kind) quads
quad_keys_are Subject quads texts numbered hashes h are = subject_keys_are quads texts numbered hashes _ h are refl
quad_keys_are Graph quads texts numbered hashes h are = graph_keys_are quads texts numbered hashes _ h are refl

-- the numbers of the partitions of the quads of a block
pub reduced_keys_are : (kind : QuadKey) (k : ℕ) (quads : List QuadParts) (texts : List (List ℕ)) (numbered : List NumQuad) (hashes : List ℕ) (keys : List (Option ℕ)) → AreNumberedBy quads texts numbered
    → hashes ≡ map hash texts → keys ≡ map (λ q. option_map (λ h. h % k) (key_by_numbers kind hashes q)) numbered → keys ≡ map (reduced_key k (key_of kind)) quads
reduced_keys_are kind k quads texts numbered hashes keys h are made =
    let reduced = λ (key : Option ℕ). option_map (λ n. n % k) key in
    made ∙ sym (map_twice reduced (key_by_numbers kind hashes) numbered) ∙ ap (map reduced) (quad_keys_are kind quads texts numbered hashes h are) ∙ map_twice reduced (key_of kind) quads

module _ (k : ℕ) (some : 0 < k) where
  reduced_same : (n : ℕ) (key : Option ℕ) → has_key k n (option_map (λ h. h % k) key) ≡ has_key k n key
  reduced_same n None = refl
  reduced_same n (Some h) = ap (λ m. m == n) (remainder_below (h % k) k (mod_below h k some))

  none_same : (key : Option ℕ) → is_none (option_map (λ h. h % k) key) ≡ is_none key
  none_same None = refl
  none_same (Some h) = refl

  -- the quads without a key
  pub unkeyed_same : (key : QuadParts → Option ℕ) (quads : List QuadParts)
      → quad_document (filter (λ q. is_none (reduced_key k key q)) quads) ≡ quad_document (filter (λ q. is_none (key q)) quads)
  unkeyed_same key quads = (λ j. quad_document (filter (λ q. none_same (key q) j) quads))

  -- the quads of each partition
  pub parts_same : (key : QuadParts → Option ℕ) (quads : List QuadParts)
      → texts_below (quads_part (reduced_key k key) k quads) k ≡ texts_below (quads_part key k quads) k
  parts_same key quads = (λ j. texts_below (λ n. sealed (quad_document (filter (λ q. reduced_same n (key q) j) quads))) k)

  -- ---- hashes and texts

  -- a remainder is in the partition of the hash
  same_partition : (n h : ℕ) → is_in k n (h % k) ≡ is_in k n h
  same_partition n h = ap (λ m. m == n) (remainder_below (h % k) k (mod_below h k some))

  -- the partition of a text
  pub text_partition : (n : ℕ) (texts : List (List ℕ)) (parts : List ℕ) (i : ℕ) (t : List ℕ) → slice_get texts i ≡ Some t → parts ≡ remainders k (map hash texts)
      → is_in k n (get_or parts i 0) ≡ is_in k n (hash t)
  text_partition n texts parts i t at is =
      ap (is_in k n)
      (ap (λ l. get_or l i 0) (is ∙ map_twice (λ h. h % k) hash texts)
      ∙ get_or-map (λ text. hash text % k) texts i t 0 (slice_get_within texts i t at) ∙ ap (λ text. hash text % k) (at_place texts i t at))
      ∙ same_partition n (hash t)

  one_number : (h : ℕ) (b : Bool) → (if b then h ∷ [] else []) ≡ cond b (h ∷ []) []
  one_number h true = refl
  one_number h false = refl

  -- one more hash, if the partition has it
  pub one_more_hash : (n : ℕ) (hashes parts : List ℕ) (i : ℕ) (found found' : List ℕ) → i < length hashes → parts ≡ remainders k hashes
      → found ≡ filter (is_in k n) (take i hashes)
      → found' ≡ found ++ (if is_in k n (get_or parts i 0) then get_or hashes i 0 ∷ [] else [])
      → found' ≡ filter (is_in k n) (take (i + 1) hashes)
  one_more_hash n hashes parts i found found' low is was pushed =
      let h = get_or hashes i 0 in
      let chosen : is_in k n (get_or parts i 0) ≡ is_in k n h =
      ap (is_in k n) (ap (λ l. get_or l i 0) is ∙ get_or-map (λ x. x % k) hashes i 0 0 low) ∙ same_partition n h in
      pushed ∙ (λ j. was j ++ (if chosen j then h ∷ [] else [])) ∙ ap (λ l. filter (is_in k n) (take i hashes) ++ l) (one_number h (is_in k n h))
      ∙ sym (filter-append (is_in k n) (take i hashes) (h ∷ [])) ∙ ap (filter (is_in k n)) (sym (take_more hashes i 0 low))
