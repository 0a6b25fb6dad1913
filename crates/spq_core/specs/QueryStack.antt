-- The stack of the thread of a query (a choice of this project).
use Rattle.std.specs.Prelude.{ℕ}

-- the bytes of an empty query: 8 MiB
abbrev pub least_stack : ℕ
least_stack = 8388608

-- the bytes for each byte of a query: 4 KiB
abbrev pub stack_per_byte : ℕ
stack_per_byte = 4096
