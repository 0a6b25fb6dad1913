-- The invariant of the loop in `close` that joins seats. Only private clauses use this definition.
use Rattle.std.specs.Prelude.{◌≡◌, ℕ, ◌+◌, ◌<◌, ◌≤◌, List, All, IfSome, length}
use Rattle.piece_board.specs.declared.history.History.{History}
use Rattle.piece_board.specs.Counts.{times}
use Rattle.piece_board.specs.Pass.{PassView}
use Rattle.piece_board.specs.Board.{drawn_by, reported_by, finished_of, skips_of}

-- the history `after` has what the history `before` and the passes had
pub record HasJoined (before : History) (ps : List PassView) (after : History) : Type 0 where
  pub seats : after.seats ≡ before.seats + length ps
  pub draws : (x : ℕ) → times x after.draws ≡ times x before.draws + drawn_by x ps
  pub reports : (x : ℕ) → times x after.reports ≡ times x before.reports + reported_by x ps
  pub finished : after.finished ≡ before.finished + finished_of ps
  pub seen : after.seen ≤ before.seen
  pub seen_above : All (λ p. after.seen ≤ p.history.seen) ps
  pub above : All (λ p. IfSome p.lowest_skip (λ i. after.seen < i)) ps
  pub room : skips_of ps + length before.draws ≤ length after.draws
