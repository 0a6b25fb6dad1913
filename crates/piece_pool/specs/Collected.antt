-- Definitions of the collector. Only private clauses use them.
use Rattle.std.specs.Prelude.{◌≡◌, ℕ, ◌<◌, ◌≤◌, List, All, Any, Contains}
use Rattle.std.specs.List.{flat_map}
use Rattle.piece_board.specs.Pass.{PassView}
use Rattle.piece_board.specs.Board.{BoardView, IsPassOf}
use Rattle.piece_pool.specs.Worked.{numbers_of, done_of, CoversUpTo}

-- the draws of all passes
abbrev pub all_draws : List PassView → List ℕ
all_draws ps = flat_map (λ p. p.history.draws) ps

-- the reports of all passes
abbrev pub all_reports : List PassView → List ℕ
all_reports ps = flat_map (λ p. p.history.reports) ps

-- The outputs and faults of finished workers, with their passes. The faults are those reported, and
-- each draw at or below what its pass has seen is done.
pub record IsCollected {Out Fault : Type 0} (answers : ℕ → Out → Type 0)
    (faults : ℕ → Fault → Type 0) (board : BoardView) (ps : List PassView)
    (outs : List (ℕ × Out)) (failed : List (ℕ × Fault)) : Type 0 where
  pub of_board : All (λ p. IsPassOf board p) ps
  pub finished : All (λ p. 0 < p.history.finished) ps
  pub returned : All (λ p. answers p.0 p.1) outs
  pub faulted : All (λ p. faults p.0 p.1) failed
  pub reported : numbers_of failed ≡ all_reports ps
  pub covers : All (λ p. CoversUpTo p.history.seen p.history.draws (done_of outs failed)) ps

-- What is known once all passes are returned: which numbers were drawn, and the least report.
pub record IsSettled (board : BoardView) (ps : List PassView) (drawn least : ℕ) : Type 0 where
  pub each_drawn : (i : ℕ) → i < drawn → Contains (all_draws ps) i
  pub complete : Any (λ p. 0 < p.history.finished) ps → drawn ≡ board.pieces
  pub most : least ≤ board.pieces
  pub below_reports : All (λ r. least ≤ r) (all_reports ps)
  pub below_seen : All (λ p. least ≤ p.history.seen) ps
  pub reported : least < board.pieces → Contains (all_reports ps) least
