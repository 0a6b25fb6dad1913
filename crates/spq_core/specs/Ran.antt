-- What a command that was run leaves, on whichever thread it was run. Only private clauses use this definition.
use Rattle.std.specs.Prelude.{◌≡◌, ℕ, List, Option, Result, Err, IfErr}
use Rattle.nquads_core.specs.declared.device.DeviceFailed.{DeviceFailed}
use Rattle.piece_pool.specs.declared.pool.PoolFault.{PoolFault}
use Rattle.spq_command.specs.declared.command.Command.{Command}
use Rattle.spq_core.specs.declared.words.Ran.{Ran}
use Rattle.spq_core.specs.Causes.{IsRunCaused}
use Rattle.spq_core.specs.Output.{request_of}
use Rattle.spq_core.specs.Run.{IsByOneWorker, IsRun}
use Rattle.spq_run.specs.declared.fault.RunFault.TheVariants.{WorkerRefused}

-- What the reader and the writer expose comes first, then what the progress was told (`fails`). If with one worker a thread
-- could not be started, it was the thread of the query, and nothing was read.
pub record IsRan {S K : Type 0} (left : S → Option (List ℕ)) (read_failures : S → Option ℕ)
    (held : K → Option (List ℕ)) (write_failures : K → Option ℕ)
    (gives : K → List ℕ → Result ℕ DeviceFailed → K → Type 0) (fails : PoolFault → Type 0)
    (command : Command) (reader : S) (writer : K) (ran : Ran S K) : Type 0 where
  pub run : IsRun left read_failures held write_failures gives (request_of command) reader ran.reader writer ran.writer ran.done
  pub unread : IsByOneWorker command → ran.done ≡ Err WorkerRefused → ran.reader ≡ reader
  pub cause : IfErr ran.done (IsRunCaused fails (left reader))
