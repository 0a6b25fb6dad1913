-- The greatest numbers and the defaults of the options, which are choices of this project.
use Rattle.std.specs.Prelude.{ℕ}

-- `--workers`
abbrev pub workers_limit : ℕ
workers_limit = 64

abbrev pub workers_default : ℕ
workers_default = 4

-- `--piece`, the least bytes of a block: 2^30 and 2^16
abbrev pub piece_limit : ℕ
piece_limit = 1073741824

abbrev pub piece_default : ℕ
piece_default = 65536

-- `--rows`, the most rows of a task: 2^30 and 2^10
abbrev pub rows_limit : ℕ
rows_limit = 1073741824

abbrev pub rows_default : ℕ
rows_default = 1024
