-- Why a run failed: what its progress was told (`fails` of `LoadListener`), or the length of the document.
use Rattle.std.specs.Prelude.{◌⊎◌, ℕ, List, ⊤, Option}
use Rattle.piece_pool.specs.declared.pool.PoolFault.{PoolFault}
use Rattle.piece_pool.specs.declared.pool.PoolFault.TheVariants as pool
use Rattle.dataset_load.specs.Causes.{IsTooLong}
use Rattle.spq_run.specs.declared.fault.RunFault.{RunFault}
use Rattle.spq_run.specs.declared.fault.RunFault.TheVariants.{Query, BadLine, WorkerRefused, Memory, Read, Write, Line}

-- `WorkerRefused` only if a thread could not be started; `Memory` only if an allocation or the random source failed, or if
-- the document is too long.
abbrev pub IsRunCaused : (PoolFault → Type 0) → Option (List ℕ) → RunFault → Type 0
IsRunCaused fails left (Query f) = ⊤
IsRunCaused fails left (BadLine n) = ⊤
IsRunCaused fails left WorkerRefused = fails pool.WorkerRefused
IsRunCaused fails left Memory = fails pool.Memory ⊎ IsTooLong left
IsRunCaused fails left Read = ⊤
IsRunCaused fails left Write = ⊤
IsRunCaused fails left Line = ⊤
