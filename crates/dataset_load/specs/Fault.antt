-- Faults of loading.
use Rattle.std.specs.Prelude.{ℕ, ⊤}
use Rattle.piece_pool.specs.declared.pool.PoolFault.{PoolFault}
use Rattle.piece_pool.specs.declared.pool.PoolFault.TheVariants as pool
use Rattle.dataset_load.specs.declared.fault.LoadFault.{LoadFault}
use Rattle.dataset_load.specs.declared.fault.LoadFault.TheVariants.{BadLine, WorkerRefused, Memory}

-- P of the line, if the fault is a malformed line.
abbrev pub IfBadLine : (ℕ → Type 0) → LoadFault → Type 0
IfBadLine P (BadLine n) = P n
IfBadLine P WorkerRefused = ⊤
IfBadLine P Memory = ⊤

-- Any fault but a worker that could not be started.
abbrev pub IsOneWorkerLoadFault : LoadFault → Type 0
IsOneWorkerLoadFault (BadLine n) = ⊤
IsOneWorkerLoadFault WorkerRefused = ⊥
IsOneWorkerLoadFault Memory = ⊤

-- the fault of a pool, under the same name
abbrev pub load_fault_of : PoolFault → LoadFault
load_fault_of pool.WorkerRefused = WorkerRefused
load_fault_of pool.Memory = Memory
