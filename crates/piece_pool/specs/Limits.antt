-- The limits of a run of the pool, which are choices of this project.
use Rattle.std.specs.Prelude.{ℕ}
pub use Rattle.piece_board.specs.Limits.{most_pieces}
use Rattle.piece_board.specs.Limits.{most_seats}

-- the most workers: each has a seat of the board
abbrev pub most_workers : ℕ
most_workers = most_seats
