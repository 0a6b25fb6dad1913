-- A board and its closing as contracts describe them. A choice of this project (not fixed by a
-- standard).
use Rattle.std.specs.Prelude.{◌≡◌, ℕ, ◌<◌, ◌≤◌, List, All, IfSome, sum_by}
use Rattle.atomic_table.specs.Seated.{TableId}
use Rattle.piece_board.specs.Counts.{times, once_below}
use Rattle.piece_board.specs.Pass.{PassView}

-- the identity of the board's table, the count of pieces, and the count of passes
pub record BoardView : Type 0 where
  pub id : TableId
  pub pieces : ℕ
  pub seats : ℕ

-- the pass is of this board
abbrev pub IsPassOf : BoardView → PassView → Type 0
IsPassOf b p = (p.board ≡ b.id) × (p.history.pieces ≡ b.pieces)

-- how often x was drawn, and reported, by all passes together
abbrev pub drawn_by : ℕ → List PassView → ℕ
drawn_by x ps = sum_by (λ p. times x p.history.draws) ps

-- the same of the reports
abbrev pub reported_by : ℕ → List PassView → ℕ
reported_by x ps = sum_by (λ p. times x p.history.reports) ps

-- how many passes are finished
abbrev pub finished_of : List PassView → ℕ
finished_of ps = sum_by (λ p. p.history.finished) ps

-- how many numbers all passes together skipped
abbrev pub skips_of : List PassView → ℕ
skips_of ps = sum_by (λ p. p.skips) ps

-- How many numbers were drawn and skipped, and the least report, of all passes together. The
-- numbers below `drawn` were drawn, each once, and no other. They are all numbers if a pass is
-- finished. `least` is the least report, or the count of pieces. It is at most what each pass has
-- seen, and below every skipped number.
pub record IsClosed (b : BoardView) (ps : List PassView) (drawn skipped least : ℕ) : Type 0 where
  pub drawn_once : (x : ℕ) → drawn_by x ps ≡ once_below x drawn
  pub drawn_within : drawn ≤ b.pieces
  pub all_drawn : All (λ p. 0 < p.history.finished → drawn ≡ b.pieces) ps
  pub least_within : least ≤ b.pieces
  pub least_reported : least < b.pieces → 0 < reported_by least ps
  pub lowest : (x : ℕ) → 0 < reported_by x ps → least ≤ x
  pub seen_above : All (λ p. least ≤ p.history.seen) ps
  pub skips_are : skipped ≡ skips_of ps
  pub above : All (λ p. IfSome p.lowest_skip (λ i. least < i)) ps
