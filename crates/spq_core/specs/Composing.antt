-- What loading a document and composing an output return, and what they do to the reader. Only private clauses and the conversions
-- of faults use these definitions.
use Rattle.std.specs.Prelude.{◌≡◌, ◌⊎◌, ℕ, List, Option, Result, Ok, Err, IfOk, OnErr, Vec}
use Rattle.std.specs.Global.{Global}
use Rattle.std.specs.Io.KnownBytes.{Consumes, IsAtEnd}
use Rattle.rdf_core.specs.QuadParts.{QuadParts}
use Rattle.nquads_core.specs.Device.{Rises, Stays}
use Rattle.nquads_core.specs.Lines.{lines}
use Rattle.nquads_core.specs.Pieces.{HaveStatements}
use Rattle.nquads_core.specs.Transfer.{IsReadInPart}
use Rattle.algebra_model.specs.Algebra.{Algebra}
use Rattle.dict_core.specs.NumQuad.{quads_at}
use Rattle.dataset_load.specs.Store.{StoreView}
use Rattle.dataset_load.specs.declared.fault.LoadFault.{LoadFault}
use Rattle.dataset_load.specs.declared.fault.LoadFault.TheVariants as load
use Rattle.dataset_load.specs.declared.reader_fault.ReaderFault.{ReaderFault}
use Rattle.dataset_load.specs.declared.reader_fault.ReaderFault.TheVariants as reading
pub use Rattle.dataset_load.specs.Streaming.{IsBadLineFrom, IsLoadedFrom}
use Rattle.needed_quads.specs.Laws.{HasNeeded}
use Rattle.result_json.specs.Results.{joined_blocks}
use Rattle.row_pieces.specs.declared.fault.EvalFault.{EvalFault}
use Rattle.row_pieces.specs.declared.fault.EvalFault.TheVariants as eval
use Rattle.sparql_read.specs.declared.fault.QueryFault.{QueryFault}
use Rattle.spq_core.specs.Output.{Request}
use Rattle.spq_core.specs.Run.{IsAnswerable, IsBadLineOf, IsComposed, IsQueryOf}
use Rattle.spq_core.specs.declared.fault.Fault.{Fault}
use Rattle.spq_core.specs.declared.fault.Fault.TheVariants as fault
use Rattle.spq_run.specs.declared.fault.RunFault.{RunFault}
use Rattle.spq_run.specs.declared.fault.RunFault.TheVariants.{Query, BadLine, WorkerRefused, Memory, Read, Write, Line}

-- a fault of loading, as a fault of `answer` under the same name
abbrev pub fault_of_loading : LoadFault → Fault
fault_of_loading (load.BadLine n) = fault.BadLine n
fault_of_loading load.WorkerRefused = fault.WorkerRefused
fault_of_loading load.Memory = fault.Memory

-- a fault of the evaluation, as a fault of `answer` under the same name
abbrev pub fault_of_evaluation : EvalFault → Fault
fault_of_evaluation eval.WorkerRefused = fault.WorkerRefused
fault_of_evaluation eval.Memory = fault.Memory

-- a fault of `answer`, under the same name
abbrev pub run_fault_of : Fault → RunFault
run_fault_of (fault.Query f) = Query f
run_fault_of (fault.BadLine n) = BadLine n
run_fault_of fault.WorkerRefused = WorkerRefused
run_fault_of fault.Memory = Memory

-- The fault of a load, under the same name.
abbrev pub run_result_of : {T : Type 0} → Result T ReaderFault → Result T RunFault
run_result_of (Ok value) = Ok value
run_result_of (Err (reading.BadLine n)) = Err (BadLine n)
run_result_of (Err reading.WorkerRefused) = Err WorkerRefused
run_result_of (Err reading.Memory) = Err Memory
run_result_of (Err reading.Read) = Err Read

-- The reader was read to its end, and every line of what was read is valid. The store has all quads of the lines that the
-- expression needs, and no quad that is not of the lines.
pub record IsNeededFrom (A : Algebra) (left left' : Option (List ℕ)) (store : StoreView) : Type 0 where
  pub doc : List ℕ
  pub consumed : Consumes left left' doc
  pub at_end : IsAtEnd left'
  pub all : List QuadParts
  pub statements : HaveStatements (lines doc) all
  pub needed : HasNeeded all (quads_at store.dict store.index) A

-- What loading the document of a reader returned, and what it did to the reader. What the reader
-- exposes comes first: the bytes that are left, and the count of its failures. Then comes what a value is
-- of the bytes that were read: a dataset, its counts or its terms. `alone` says that one worker loads,
-- which is the caller.
pub record IsLoading {S T : Type 0} (left : S → Option (List ℕ)) (read_failures : S → Option ℕ)
    (loads : Option (List ℕ) → Option (List ℕ) → T → Type 0) (alone : Type 0) (reader reader' : S)
    (result : Result T RunFault) : Type 0 where
  pub loaded : IfOk result (loads (left reader) (left reader'))
  pub bad_line : (n : ℕ) → result ≡ Err (BadLine n) → IsBadLineFrom (left reader) (left reader') n
  pub taken : OnErr result (IsReadInPart (left reader) (left reader'))
  pub read : result ≡ Err Read → Rises (read_failures reader) (read_failures reader')
  pub unfailed : (result ≡ Err Read → ⊥) → Stays (read_failures reader) (read_failures reader')
  pub query : (f : QueryFault) → result ≡ Err (Query f) → ⊥
  pub write : result ≡ Err Write → ⊥
  pub line : result ≡ Err Line → ⊥
  pub one_worker : alone → result ≡ Err WorkerRefused → ⊥

-- What composing the output of a command returned, and what it did to the reader. Nothing is written.
-- The output is in blocks, one after the other.
pub record IsComposing {S : Type 0} (left : S → Option (List ℕ)) (read_failures : S → Option ℕ)
    (request : Request) (alone : Type 0) (reader reader' : S)
    (result : Result (Vec (Vec ℕ Global) Global) RunFault) : Type 0 where
  pub composed : IfOk result (λ blocks. IsComposed request (left reader) (left reader') (joined_blocks blocks.items))
  pub query : (f : QueryFault) → result ≡ Err (Query f) → IsQueryOf request f × (reader' ≡ reader)
  pub query_first : OnErr result ((reader' ≡ reader) ⊎ IsAnswerable request)
  pub answerable : result ≡ Err WorkerRefused → IsAnswerable request
  pub bad_line : (n : ℕ) → result ≡ Err (BadLine n) → IsBadLineOf request (left reader) (left reader') n
  pub taken : OnErr result (IsReadInPart (left reader) (left reader'))
  pub read : result ≡ Err Read → Rises (read_failures reader) (read_failures reader')
  pub unfailed : (result ≡ Err Read → ⊥) → Stays (read_failures reader) (read_failures reader')
  pub write : result ≡ Err Write → ⊥
  pub line : result ≡ Err Line → ⊥
  pub one_worker : alone → result ≡ Err WorkerRefused → ⊥
