-- Faults of loading the rest of a reader.
use Rattle.std.specs.Prelude.{ℕ, ⊤, Option, Result, Ok, Err}
use Rattle.nquads_core.specs.Device.{Rises, Stays}
use Rattle.dataset_load.specs.declared.reader_fault.ReaderFault.{ReaderFault}
use Rattle.dataset_load.specs.declared.reader_fault.ReaderFault.TheVariants.{BadLine, WorkerRefused, Memory, Read}

-- P of the line, if the fault is a malformed line.
abbrev pub IfBadLineRead : (ℕ → Type 0) → ReaderFault → Type 0
IfBadLineRead P (BadLine n) = P n
IfBadLineRead P WorkerRefused = ⊤
IfBadLineRead P Memory = ⊤
IfBadLineRead P Read = ⊤

-- Any fault but a worker that could not be started.
abbrev pub IsOneWorkerReaderFault : ReaderFault → Type 0
IsOneWorkerReaderFault (BadLine n) = ⊤
IsOneWorkerReaderFault WorkerRefused = ⊥
IsOneWorkerReaderFault Memory = ⊤
IsOneWorkerReaderFault Read = ⊤

-- The count of failures rises exactly if the reader failed.
abbrev pub CountsLoading : {T : Type 0} → Option ℕ → Option ℕ → Result T ReaderFault → Type 0
CountsLoading old new (Ok v) = Stays old new
CountsLoading old new (Err (BadLine n)) = Stays old new
CountsLoading old new (Err WorkerRefused) = Stays old new
CountsLoading old new (Err Memory) = Stays old new
CountsLoading old new (Err Read) = Rises old new
