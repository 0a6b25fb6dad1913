-- What a worker returns (a choice of this project): outputs and faults of the job, for the numbers
-- that it drew.
use Rattle.std.specs.Prelude.{◌≡◌, ℕ, ◌<◌, ◌≤◌, List, [], ◌∷◌, ◌++◌, Some, map, All, Contains, false}
use Rattle.piece_board.specs.Counts.{times}
use Rattle.piece_board.specs.Pass.{PassView}
use Rattle.piece_board.specs.Board.{BoardView, IsPassOf}
use Rattle.piece_pool.specs.declared.worker.Worked.{Worked}

-- the numbers of the pieces in the list
abbrev pub numbers_of : {X : Type 0} → List (ℕ × X) → List ℕ
numbers_of ps = map (λ p. p.0) ps

-- the numbers of outputs and faults
abbrev pub done_of : {Out Fault : Type 0} → List (ℕ × Out) → List (ℕ × Fault) → List ℕ
done_of outs faults = numbers_of outs ++ numbers_of faults

-- no number occurs in xs more often than in ys
abbrev pub IsNoMoreThan : List ℕ → List ℕ → Type 0
IsNoMoreThan xs ys = (x : ℕ) → times x xs ≤ times x ys

-- each number of xs that is at most this one occurs in ys
abbrev pub CoversUpTo : ℕ → List ℕ → List ℕ → Type 0
CoversUpTo most xs ys = (i : ℕ) → Contains xs i → i ≤ most → Contains ys i

-- The work on a job so far. Each output and each fault is one of the job's. Their numbers are
-- draws; each draw is in at most one of the two lists, and at most once. The numbers of the faults
-- are the reports.
pub record IsWorkOf {Out Fault : Type 0} (answers : ℕ → Out → Type 0)
    (faults : ℕ → Fault → Type 0) (draws reports : List ℕ) (outs : List (ℕ × Out))
    (failed : List (ℕ × Fault)) : Type 0 where
  pub returned : All (λ p. answers p.0 p.1) outs
  pub faulted : All (λ p. faults p.0 p.1) failed
  pub drawn : IsNoMoreThan (done_of outs failed) draws
  pub reported : numbers_of failed ≡ reports

-- What one worker returns for a job on a board. Unless it stopped, its pass is finished, and each
-- draw at or below what the pass has seen has an output or a fault.
pub record IsWorked {Out Fault : Type 0} (answers : ℕ → Out → Type 0)
    (faults : ℕ → Fault → Type 0) (board : BoardView) (w : Worked Out Fault) : Type 0 where
  pub of_board : IsPassOf board w.pass
  pub work :
      IsWorkOf answers faults w.pass.history.draws w.pass.history.reports w.outs.items
      w.faults.items
  pub finished : w.stopped ≡ false → 0 < w.pass.history.finished
  pub covers :
      w.stopped ≡ false
      → CoversUpTo w.pass.history.seen w.pass.history.draws (done_of w.outs.items w.faults.items)

-- A worker between two pieces: its pass is not finished, and each draw at or below what the pass
-- has seen has an output or a fault. Only private clauses use this and the next definition.
pub record IsUnderway {Out Fault : Type 0} (answers : ℕ → Out → Type 0)
    (faults : ℕ → Fault → Type 0) (board : BoardView) (p : PassView) (outs : List (ℕ × Out))
    (failed : List (ℕ × Fault)) : Type 0 where
  pub of_board : IsPassOf board p
  pub unfinished : p.history.finished ≡ 0
  pub work : IsWorkOf answers faults p.history.draws p.history.reports outs failed
  pub covers : CoversUpTo p.history.seen p.history.draws (done_of outs failed)

-- A worker that drew piece i and has not run it. With i done it is between two pieces.
pub record IsDrawn {Out Fault : Type 0} (answers : ℕ → Out → Type 0) (faults : ℕ → Fault → Type 0)
    (board : BoardView) (i : ℕ) (p : PassView) (outs : List (ℕ × Out))
    (failed : List (ℕ × Fault)) : Type 0 where
  pub of_board : IsPassOf board p
  pub unfinished : p.history.finished ≡ 0
  pub last : p.last ≡ Some i
  pub work : IsWorkOf answers faults p.history.draws p.history.reports outs failed
  pub once : IsNoMoreThan (done_of outs failed ++ i ∷ []) p.history.draws
  pub covers : CoversUpTo p.history.seen p.history.draws (done_of outs failed ++ i ∷ [])
