-- One fault under the name of another. Only private clauses use these definitions.
use Rattle.std.specs.Prelude.{⊤}
use Rattle.nquads_core.specs.declared.transfer.ReadFault.{ReadFault}
use Rattle.nquads_core.specs.declared.transfer.ReadFault.TheVariants as reading
use Rattle.piece_pool.specs.declared.pool.PoolFault.{PoolFault}
use Rattle.piece_pool.specs.declared.pool.PoolFault.TheVariants as pool
use Rattle.dataset_load.specs.declared.fault.LoadFault.{LoadFault}
use Rattle.dataset_load.specs.declared.fault.LoadFault.TheVariants as loading
use Rattle.dataset_load.specs.declared.reader_fault.ReaderFault.{ReaderFault}
use Rattle.dataset_load.specs.declared.reader_fault.ReaderFault.TheVariants.{BadLine, WorkerRefused, Memory, Read}

-- the fault of a load, under the same name
abbrev pub fault_of_load : LoadFault → ReaderFault
fault_of_load (loading.BadLine n) = BadLine n
fault_of_load loading.WorkerRefused = WorkerRefused
fault_of_load loading.Memory = Memory

-- the fault of a read, under the same name
abbrev pub fault_of_read : ReadFault → ReaderFault
fault_of_read reading.Read = Read
fault_of_read reading.Memory = Memory

-- the cause of a fault that is no limit
abbrev pub IsFailed : (PoolFault → Type 0) → ReaderFault → Type 0
IsFailed fails (BadLine n) = ⊤
IsFailed fails WorkerRefused = fails pool.WorkerRefused
IsFailed fails Memory = fails pool.Memory
IsFailed fails Read = ⊤

-- the causes of the faults of a load and of a read
abbrev pub IsLoadFailed : (PoolFault → Type 0) → LoadFault → Type 0
IsLoadFailed fails (loading.BadLine n) = ⊤
IsLoadFailed fails loading.WorkerRefused = fails pool.WorkerRefused
IsLoadFailed fails loading.Memory = fails pool.Memory

abbrev pub IsReadFailed : (PoolFault → Type 0) → ReadFault → Type 0
IsReadFailed fails reading.Read = ⊤
IsReadFailed fails reading.Memory = fails pool.Memory
