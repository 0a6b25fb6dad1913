-- The line and the status of a fault.
use Rattle.std.specs.Prelude.{ℕ, List, ◌++◌, ◌⊎◌, Option, Result, Ok, Err, codes, decimal}
use Rattle.std.specs.Io.KnownBytes.{Appends}
use Rattle.nquads_core.specs.Device.{Stays}
use Rattle.nquads_core.specs.Transfer.{WroteBeginning}
use Rattle.nquads_core.specs.declared.device.DeviceFailed.{DeviceFailed}
use Rattle.sparql_read.specs.declared.fault.QueryFault.{QueryFault}
use Rattle.sparql_read.specs.declared.fault.QueryFault.TheVariants.{Syntax, UndefinedPrefix, RelativeIri, BindScope, BlankReuse, TooDeep}
use Rattle.sparql_read.specs.declared.fault.QueryFault.TheVariants as query_fault
use Rattle.spq_run.specs.Writing.{WriterFailed}
use Rattle.spq_run.specs.declared.fault.RunFault.{RunFault}
use Rattle.spq_run.specs.declared.fault.RunFault.TheVariants.{Query, BadLine, WorkerRefused, Memory, Read, Write, Line}

-- the line of a rejected query
abbrev pub query_line : QueryFault → List ℕ
query_line Syntax = codes "error: query syntax\n"
query_line UndefinedPrefix = codes "error: query prefix\n"
query_line RelativeIri = codes "error: query relative iri\n"
query_line BindScope = codes "error: query bind\n"
query_line BlankReuse = codes "error: query blank label\n"
query_line TooDeep = codes "error: query depth\n"
query_line query_fault.Memory = codes "error: memory\n"

-- the line of a fault
abbrev pub fault_line : RunFault → List ℕ
fault_line (BadLine n) = codes "error: line " ++ (decimal n ++ codes "\n")
fault_line (Query f) = query_line f
fault_line Line = codes "error: command line\n"
fault_line WorkerRefused = codes "error: worker\n"
fault_line Memory = codes "error: memory\n"
fault_line Read = codes "error: input\n"
fault_line Write = codes "error: output\n"

-- the status of a rejected query
abbrev pub query_status : QueryFault → ℕ
query_status Syntax = 2
query_status UndefinedPrefix = 2
query_status RelativeIri = 2
query_status BindScope = 2
query_status BlankReuse = 2
query_status TooDeep = 2
query_status query_fault.Memory = 4

-- the exit status of a fault
abbrev pub status_of : RunFault → ℕ
status_of (BadLine n) = 1
status_of (Query f) = query_status f
status_of Line = 3
status_of WorkerRefused = 4
status_of Memory = 4
status_of Read = 5
status_of Write = 5

-- 0 if there was no fault, and otherwise the status of the fault
abbrev pub exit_status : {T : Type 0} → Result T RunFault → ℕ
exit_status (Ok v) = 0
exit_status (Err fault) = status_of fault

-- The whole text was written and no call of the writer failed, or the writer failed after a prefix of
-- it.
abbrev pub WroteOrFailed : {K : Type 0} → (K → List ℕ → Result ℕ DeviceFailed → K → Type 0) → Option ℕ → Option ℕ → K → Option (List ℕ) → Option (List ℕ) → List ℕ → Type 0
WroteOrFailed gives fails fails' writer' held held' text =
    (Appends held held' text × Stays fails fails') ⊎ (WroteBeginning held held' text × WriterFailed gives fails fails' held held' text writer')
