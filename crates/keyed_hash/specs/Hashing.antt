-- The hash function: a folded multiplication with two secret keys (the first state, and `key`), where
-- the kit's `FoldHasher` has fixed ones.
--
-- These definitions repeat the code step by step. They are not a specification that the code is measured
-- against. The trait `Hasher` of the standard library requires a description of the state after each `write` and
-- of the number that `finish` returns, for every byte, and the code is that description. No public clause cites
-- them, and no result of the program depends on a hash, only its speed.
use Rattle.std.specs.Prelude.{ℕ, zero, suc, ◌+◌, ◌-◌, ◌*◌, ◌/◌, ◌%◌, ◌^◌, List, length, if◌then◌else◌, nat_le, bit_xor}
use Rattle.core.specs.Hash.FoldHasher.{folded_multiply, read_short, read_u64}
use Rattle.keyed_hash.specs.declared.KeyedHasher.{KeyedHasher}
use Rattle.keyed_hash.specs.declared.HashState.{HashState}

-- the state after the words at i and at j
abbrev pub mix : ℕ → List ℕ → ℕ → ℕ → ℕ → ℕ
mix key bs state i j = folded_multiply (bit_xor (read_u64 bs i) state) (bit_xor (read_u64 bs j) key)

-- the state after the first n blocks of 16 bytes
unfoldable pub mix_blocks : ℕ → List ℕ → ℕ → ℕ → ℕ
mix_blocks key bs state zero = state
mix_blocks key bs state (suc n) = mix key bs (mix_blocks key bs state n) (16 * n) (16 * n + 8)

-- the state after `write(bs)`
unfoldable pub write : KeyedHasher → List ℕ → KeyedHasher
write h bs =
    let n = length bs in
    let short = folded_multiply (bit_xor h.state (read_short bs)) (bit_xor h.key (2 * n)) in
    let long = mix h.key bs (mix_blocks h.key bs ((h.state + n) % 2 ^ 64) ((n - 1) / 16)) (n - 16) (n - 8) in
    record { state = if nat_le n 8 then short else long; key = h.key }

-- what `finish` returns
abbrev pub finish : KeyedHasher → ℕ
finish h = h.state

-- the hash of these bytes
abbrev pub hash_of : HashState → List ℕ → ℕ
hash_of state bs = finish (write state.initial bs)
