-- The limits of a round of loading, which are choices of this project.
use Rattle.std.specs.Prelude.{ℕ, ◌^◌}

-- the most pieces of a round
abbrev pub most_pieces_of_a_round : ℕ
most_pieces_of_a_round = 2 ^ 20

-- the least number of bytes of a round, except the last one
abbrev pub least_bytes_of_a_round : ℕ
least_bytes_of_a_round = 2 ^ 16
