-- The result of a job over all its pieces (a choice of this project). It mentions no worker, no
-- gate and no board.
use Rattle.std.specs.Prelude.{◌≡◌, ℕ, ◌<◌, List, length, slice_index_or}
use Rattle.piece_pool.specs.declared.collector.Outcome.{Outcome}
use Rattle.piece_pool.specs.declared.collector.Outcome.TheVariants.{All as Every, First}

-- no piece below n is faulty, and the output of each is at its index
pub record HasEachOutput {Out Fault : Type 0} (answers : ℕ → Out → Type 0)
    (faults : ℕ → Fault → Type 0) (n : ℕ) (outs : List Out) : Type 0 where
  pub count : length outs ≡ n
  pub each : (i : ℕ) (d : Out) → i < n → answers i (slice_index_or outs i d)
  pub no_fault : (i : ℕ) (fault : Fault) → i < n → ¬ faults i fault

-- the least faulty piece below n, and its fault
pub record IsFirstFault {Out Fault : Type 0} (answers : ℕ → Out → Type 0)
    (faults : ℕ → Fault → Type 0) (n piece : ℕ) (fault : Fault) : Type 0 where
  pub below : piece < n
  pub faulted : faults piece fault
  pub returned : (i : ℕ) → i < piece → (out : Out) × answers i out
  pub least : (i : ℕ) (other : Fault) → i < piece → ¬ faults i other

-- the outputs of all pieces below n, or the least faulty piece
abbrev pub IsPoolOutcome :
    {Out Fault : Type 0} → (ℕ → Out → Type 0) → (ℕ → Fault → Type 0) → ℕ
    → Outcome Out Fault → Type 0
IsPoolOutcome answers faults n (Every outs) = HasEachOutput answers faults n outs.items
IsPoolOutcome answers faults n (First piece fault) = IsFirstFault answers faults n piece fault
