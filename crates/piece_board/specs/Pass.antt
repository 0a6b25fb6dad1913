-- A pass as contracts describe it: the history of its seat, its last draw if that is neither
-- reported nor skipped, and its skips, which no word of the board shows. A choice of this project
-- (not fixed by a standard).
use Rattle.std.specs.Prelude.{◌≡◌, ℕ, ◌+◌, ◌<◌, ◌≤◌, Option, Some, None, length, ltb, IfSome, cond}
use Rattle.piece_board.specs.Limits.{most_pieces}
use Rattle.atomic_table.specs.Seated.{TableId}
use Rattle.piece_board.specs.declared.history.History.{History}
use Rattle.piece_board.specs.Counts.{times}
use Rattle.piece_board.specs.Protocol.{IsLast, fresh, with_draw, with_end, with_report, with_seen}
use Rattle.piece_board.specs.Rule.{DrawsOnce}

-- the lowest skipped number is None if nothing was skipped
pub record PassView : Type 0 where
  pub board : TableId
  pub history : History
  pub last : Option ℕ
  pub skips : ℕ
  pub lowest_skip : Option ℕ

-- a pass as it is handed out, to a board of n pieces
abbrev pub unused : TableId → ℕ → PassView
unused id n = record {
  board = id;
  history = fresh n 1;
  last = None;
  skips = 0;
  lowest_skip = None;
}

-- the pass with another history and another last draw
abbrev pub with_history : PassView → History → Option ℕ → PassView
with_history p h last = record {
  board = p.board;
  history = h;
  last = last;
  skips = p.skips;
  lowest_skip = p.lowest_skip;
}

-- the pass after a draw, a report of i, a look that found i
abbrev pub after_drawing : PassView → Option ℕ → PassView
after_drawing p None = with_history p (with_end p.history) None
after_drawing p (Some i) = with_history p (with_draw i p.history) (Some i)

-- the pass after a report of i
abbrev pub after_reporting : PassView → ℕ → PassView
after_reporting p i = with_history p (with_report i p.history) None

-- the pass after a look that found i
abbrev pub after_looking : PassView → ℕ → PassView
after_looking p i = with_history p (with_seen i p.history) p.last

-- the lower of i and a number that may be absent
abbrev pub lower : Option ℕ → ℕ → ℕ
lower None i = i
lower (Some j) i = cond (ltb j i) j i

-- the pass after it skipped i
abbrev pub after_skipping : PassView → ℕ → PassView
after_skipping p i = record {
  board = p.board;
  history = p.history;
  last = None;
  skips = p.skips + 1;
  lowest_skip = Some (lower p.lowest_skip i);
}

-- 1 if there is a number, and otherwise 0
abbrev pub count_of : Option ℕ → ℕ
count_of None = 0
count_of (Some i) = 1

-- The invariant of a pass. Each draw is below the count of pieces and occurs once. The last draw is
-- neither reported nor that of a finished pass. What it skipped is above what it has seen. Its
-- skips and its last draw are at most as many as its draws.
pub record PassFacts (p : PassView) : Type 0 where
  pub single : p.history.seats ≡ 1
  pub pieces_fit : p.history.pieces ≤ most_pieces
  pub once : DrawsOnce p.history
  pub among : (x : ℕ) → times x p.history.reports ≤ times x p.history.draws
  pub last_is :
      IfSome p.last
      (λ i. IsLast i p.history.draws × (times i p.history.reports ≡ 0) × (p.history.finished ≡ 0))
  pub above : IfSome p.lowest_skip (λ i. p.history.seen < i)
  pub room : p.skips + count_of p.last ≤ length p.history.draws
