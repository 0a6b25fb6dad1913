-- Why loading failed: what the listener was told (`fails` of `LoadListener`), or the length of the document.
use Rattle.std.specs.Prelude.{◌≡◌, ◌≤◌, ◌⊎◌, ◌^◌, ℕ, List, ⊤, false, length, IfSome, Option, Some, None}
use Rattle.piece_pool.specs.declared.pool.PoolFault.{PoolFault}
use Rattle.piece_pool.specs.declared.pool.PoolFault.TheVariants as pool
use Rattle.dataset_load.specs.declared.load_notes.Listing.{Listing}
use Rattle.dataset_load.specs.declared.reader_fault.ReaderFault.{ReaderFault}
use Rattle.dataset_load.specs.declared.reader_fault.ReaderFault.TheVariants.{BadLine, WorkerRefused, Memory, Read}

-- The reader had 2^55 bytes or more left (32 PiB), or does not expose what it had. Fewer bytes exceed none of the limits: a
-- reader has at most 2^40 rounds, and at most 2^64 - 1 reads after a malformed line.
abbrev pub IsTooLong : Option (List ℕ) → Type 0
IsTooLong left = IfSome left (λ bytes. 2 ^ 55 ≤ length bytes)

-- `WorkerRefused` only if a worker could not be started; `Memory` only if an allocation or the random source failed, if the
-- document has more than 2^34 - 2 distinct terms, or if it is too long.
abbrev pub IsCaused : (PoolFault → Type 0) → Option (List ℕ) → ReaderFault → Type 0
IsCaused fails left (BadLine n) = ⊤
IsCaused fails left WorkerRefused = fails pool.WorkerRefused
IsCaused fails left Memory = fails pool.Memory ⊎ IsTooLong left
IsCaused fails left Read = ⊤

-- a worker could not be started, or an allocation failed
abbrev pub HasFailed : (PoolFault → Type 0) → Type 0
HasFailed fails = fails pool.WorkerRefused ⊎ fails pool.Memory

-- A list that is not complete has a cause.
abbrev pub IsStopped : (PoolFault → Type 0) → Option (List ℕ) → Option Listing → Type 0
IsStopped fails left (Some listing) = listing.is_complete ≡ false → HasFailed fails ⊎ IsTooLong left
IsStopped fails left None = ⊤
