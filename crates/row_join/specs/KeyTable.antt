-- A hash table of distinct keys (a choice of this project). Only private clauses use these definitions.
use Rattle.std.specs.Prelude.{◌≡◌, ◌≢◌, ℕ, ◌+◌, ◌-◌, ◌<◌, ◌≤◌, Bool, List, [], ◌∷◌, ◌++◌, length, get_or, nat_eq, bit_and, bit_xor, if◌then◌else◌}
use Rattle.std.specs.List.{fold, list_any, position_or_len}
use Rattle.std.specs.Cmp.Lexicographic.{pointwise}
use Rattle.std.specs.Int.{to_le_bytes, w64}
use Rattle.keyed_hash.specs.Hashing.{hash_of}
use Rattle.keyed_hash.specs.declared.HashState.{HashState}
use Rattle.row_join.specs.Places.{GroupList}

-- keys of one width
pub record KeyList : Type 0 where
  pub width : ℕ
  pub keys : List (List ℕ)

-- groups of places under keys of one width
pub record KeyedGroups : Type 0 where
  pub width : ℕ
  pub list : GroupList

-- the numbers are the same
abbrev pub same_numbers : List ℕ → List ℕ → Bool
same_numbers = pointwise nat_eq

-- the place of a key, or the number of keys if it is not among them
abbrev pub place_of : List ℕ → List (List ℕ) → ℕ
place_of key keys = position_or_len (same_numbers key) keys

-- the keys, with this one at the end if it is not among them
abbrev pub with_key : List (List ℕ) → List ℕ → List (List ℕ)
with_key keys key = if list_any (same_numbers key) keys then keys else keys ++ key ∷ []

-- the hash of one number
abbrev pub hash_step : HashState → ℕ → ℕ
hash_step state n = hash_of state (to_le_bytes w64 n)

-- the hash of a key: one step for each number
abbrev pub key_hash : HashState → List ℕ → ℕ
key_hash state key = fold (λ h n. hash_step state (bit_xor h n)) 0 key

-- the bucket of a key, of this many
abbrev pub bucket_of : HashState → ℕ → List ℕ → ℕ
bucket_of state buckets key = bit_and (key_hash state key) (buckets - 1)

-- The link is one more than the place of the last key below `limit` whose bucket is b, or 0 if there is none.
pub record IsLink (bucket : List ℕ → ℕ) (keys : List (List ℕ)) (b limit link : ℕ) : Type 0 where
  pub low : link ≤ limit
  pub here : (n : ℕ) → link ≡ n + 1 → bucket (get_or keys n []) ≡ b
  pub last : (n : ℕ) → n < limit → bucket (get_or keys n []) ≡ b → n < link

-- each key has a link to the key before it in its bucket
abbrev pub AreLinks : (List ℕ → ℕ) → List (List ℕ) → List ℕ → Type 0
AreLinks bucket keys earlier =
    (i : ℕ) → i < length earlier → IsLink bucket keys (bucket (get_or keys i [])) i (get_or earlier i 0)

-- each bucket has a link to its last key, and no key occurs twice
pub record IsKeyTable (bucket : List ℕ → ℕ) (keys : List (List ℕ)) (buckets earlier : List ℕ) : Type 0 where
  pub some : 0 < length buckets
  pub ends : (b : ℕ) → b < length buckets → IsLink bucket keys b (length earlier) (get_or buckets b 0)
  pub links : AreLinks bucket keys earlier
  pub distinct : (n i : ℕ) → n < i → i < length keys → get_or keys n [] ≢ get_or keys i []
