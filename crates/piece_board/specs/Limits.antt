-- The limits of a board, which are choices of this project.
use Rattle.std.specs.Prelude.{ℕ, ◌^◌}

-- the most pieces of a board, and so of a job
abbrev pub most_pieces : ℕ
most_pieces = 2 ^ 62

-- the most seats of a board
abbrev pub most_seats : ℕ
most_seats = 64
