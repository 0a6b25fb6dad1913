-- What a run did, and what it leaves on each error.
use Rattle.std.specs.Prelude.{◌≡◌, ◌⊎◌, ℕ, List, ⊤, Option, Result, Ok, Err, OnOk, OnErr}
use Rattle.std.specs.Str.{chars}
use Rattle.std.specs.Io.KnownBytes.{Appends, Consumes, IsAtEnd}
use Rattle.nquads_core.specs.Device.{Rises, Stays}
use Rattle.nquads_core.specs.Transfer.{IsReadInPart, WroteBeginning}
use Rattle.nquads_core.specs.declared.device.DeviceFailed.{DeviceFailed}
use Rattle.spq_command.specs.declared.command.Command.{Command}
use Rattle.spq_command.specs.declared.command.Command.TheVariants.{Select, Check, Terms}
use Rattle.spq_core.specs.Outcome.{bad_line}
use Rattle.spq_core.specs.Output.{Request, select, check, terms, IsOutput}
use Rattle.sparql_read.specs.declared.fault.QueryFault.{QueryFault}
use Rattle.sparql_tree.specs.QueryTree.{QueryTree}
use Rattle.sparql_read.specs.Rejection.{IsValidQuery, IsRejectedBy}
use Rattle.spq_run.specs.Writing.{WriterFailed}
use Rattle.spq_run.specs.declared.fault.RunFault.{RunFault}
use Rattle.spq_run.specs.declared.fault.RunFault.TheVariants.{Query, BadLine, Read, Write, Line}

-- The command is done with one worker, which is the caller itself.
abbrev pub IsByOneWorker : Command → Type 0
IsByOneWorker (Select text reading rows) = reading.workers ≡ 1
IsByOneWorker (Check reading) = reading.workers ≡ 1
IsByOneWorker (Terms reading) = reading.workers ≡ 1

-- The reader was read to its end, and this is the output for what was read.
pub record IsComposed (request : Request) (left left' : Option (List ℕ)) (text : List ℕ) : Type 0 where
  pub doc : List ℕ
  pub consumed : Consumes left left' doc
  pub at_end : IsAtEnd left'
  pub output : IsOutput request doc (Ok text)

-- The output for what was read was written, and nothing else.
pub record IsDone (request : Request) (left left' held held' : Option (List ℕ)) : Type 0 where
  pub text : List ℕ
  pub composed : IsComposed request left left' text
  pub written : Appends held held' text

-- The reader was read to its end, and this line is the first malformed line of what was read.
pub record IsBadLineOf (request : Request) (left left' : Option (List ℕ)) (line : ℕ) : Type 0 where
  pub doc : List ℕ
  pub consumed : Consumes left left' doc
  pub at_end : IsAtEnd left'
  pub output : IsOutput request doc (Err (bad_line line))

-- The command selects, and this is the first rule that rejects the text of its query.
abbrev pub IsQueryOf : Request → QueryFault → Type 0
IsQueryOf (select text) f = IsRejectedBy (chars text) f
IsQueryOf check f = ⊥
IsQueryOf terms f = ⊥

-- The command lists, checks, or selects by a text that is a query of the subset.
abbrev pub IsAnswerable : Request → Type 0
IsAnswerable (select text) = (q : QueryTree) × IsValidQuery (chars text) q
IsAnswerable check = ⊤
IsAnswerable terms = ⊤

-- A beginning of the output for what was read was written, and not all of it, since the writer failed.
pub record IsWrittenInPart {K : Type 0} (request : Request) (left left' : Option (List ℕ))
    (held : K → Option (List ℕ)) (write_failures : K → Option ℕ)
    (write_gives : K → List ℕ → Result ℕ DeviceFailed → K → Type 0) (writer writer' : K) : Type 0 where
  pub text : List ℕ
  pub composed : IsComposed request left left' text
  pub part : WroteBeginning (held writer) (held writer') text
  pub failed : WriterFailed write_gives (write_failures writer) (write_failures writer') (held writer) (held writer') text writer'

-- What a run returned, and what it did to its reader and its writer. What these expose comes first: the
-- bytes that are left, the count of the reader's failures, the bytes that are held, the count of the
-- writer's failures, and what a write may give.
pub record IsRun {S K T : Type 0} (left : S → Option (List ℕ)) (read_failures : S → Option ℕ)
    (held : K → Option (List ℕ)) (write_failures : K → Option ℕ)
    (write_gives : K → List ℕ → Result ℕ DeviceFailed → K → Type 0) (request : Request)
    (reader reader' : S) (writer writer' : K) (result : Result T RunFault) : Type 0 where
  -- the whole output was written
  pub done : OnOk result (IsDone request (left reader) (left reader') (held writer) (held writer'))
  -- the query is rejected before anything is read
  pub query : (f : QueryFault) → result ≡ Err (Query f) → IsQueryOf request f × (reader' ≡ reader)
  pub query_first : OnErr result ((reader' ≡ reader) ⊎ IsAnswerable request)
  -- the first malformed line, and all was read
  pub bad_line : (n : ℕ) → result ≡ Err (BadLine n) → IsBadLineOf request (left reader) (left reader') n
  -- what was taken from the reader, and whether it failed
  pub taken : OnErr result (IsReadInPart (left reader) (left reader'))
  pub read : result ≡ Err Read → Rises (read_failures reader) (read_failures reader')
  pub unfailed : (result ≡ Err Read → ⊥) → Stays (read_failures reader) (read_failures reader')
  -- what was written, and whether the writer failed
  pub write : result ≡ Err Write → IsWrittenInPart request (left reader) (left reader') held write_failures write_gives writer writer'
  pub write_count : OnOk result (Stays (write_failures writer) (write_failures writer'))
  pub unwritten : (result ≡ Err Write → ⊥) → OnErr result (writer' ≡ writer)
  -- a run returns no fault of the command line
  pub line : result ≡ Err Line → ⊥
