-- What the words of a command line do to a reader and a writer.
use Rattle.std.specs.Prelude.{◌≡◌, ℕ, List, ⊤, Option, Result, Err}
use Rattle.nquads_core.specs.declared.device.DeviceFailed.{DeviceFailed}
use Rattle.spq_command.specs.Program.{IsCommandLine}
use Rattle.spq_command.specs.declared.command.Command.{Command}
use Rattle.spq_command.specs.declared.command.Command.TheVariants.{Select, Check, Terms}
use Rattle.spq_core.specs.Output.{request_of}
use Rattle.spq_core.specs.Run.{IsAnswerable, IsByOneWorker, IsRun}
use Rattle.spq_run.specs.declared.fault.RunFault.{RunFault}
use Rattle.spq_run.specs.declared.fault.RunFault.TheVariants.{Query, BadLine, WorkerRefused, Memory, Read, Write, Line}

-- The words are no command, or an allocation failed, which says nothing of the words.
abbrev pub IsWordsFault : List (List ℕ) → RunFault → Type 0
IsWordsFault words (Query f) = ⊥
IsWordsFault words (BadLine n) = ⊥
IsWordsFault words WorkerRefused = ⊥
IsWordsFault words Memory = ⊤
IsWordsFault words Read = ⊥
IsWordsFault words Write = ⊥
IsWordsFault words Line = (command : Command) → IsCommandLine words command → ⊥

-- No command was run, and the reader and the writer are as they were.
pub record IsNotRun {S K T : Type 0} (words : List (List ℕ)) (reader reader' : S)
    (writer writer' : K) (result : Result T RunFault) : Type 0 where
  pub fault : RunFault
  pub failed : result ≡ Err fault
  pub cause : IsWordsFault words fault
  pub unread : reader' ≡ reader
  pub unwritten : writer' ≡ writer

-- The command is `check` or `terms`, with one worker, which is the caller itself.
abbrev pub IsDoneAlone : Command → Type 0
IsDoneAlone (Select text reading rows) = ⊥
IsDoneAlone (Check reading) = reading.workers ≡ 1
IsDoneAlone (Terms reading) = reading.workers ≡ 1

-- The words are this command, and it was run. If a thread could not be started, the query is valid. With
-- one worker that was the thread of the query, and nothing was read.
pub record IsRunOf {S K T : Type 0} (left : S → Option (List ℕ)) (read_failures : S → Option ℕ)
    (held : K → Option (List ℕ)) (write_failures : K → Option ℕ)
    (gives : K → List ℕ → Result ℕ DeviceFailed → K → Type 0) (words : List (List ℕ))
    (reader reader' : S) (writer writer' : K) (result : Result T RunFault) : Type 0 where
  pub command : Command
  pub command_line : IsCommandLine words command
  pub run : IsRun left read_failures held write_failures gives (request_of command) reader reader' writer writer' result
  pub alone : IsDoneAlone command → result ≡ Err WorkerRefused → ⊥
  pub unread : IsByOneWorker command → result ≡ Err WorkerRefused → reader' ≡ reader
  pub answerable : result ≡ Err WorkerRefused → IsAnswerable (request_of command)
