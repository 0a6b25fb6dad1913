-- The bytes of escapes in JSON strings (RFC 8259, section 7). Only private clauses use these definitions.
use Rattle.std.specs.Prelude.{ℕ, ◌+◌, ◌-◌, ◌==◌, nat_lt, if◌then◌else◌}

-- the byte that a backslash and this byte mean, if the byte is not `u`
abbrev pub short_escape : ℕ → ℕ
short_escape c =
    if c == 98 then 8 else if c == 102 then 12 else if c == 110 then 10 else if c == 114 then 13 else if c == 116 then 9
    else c

-- the value of a hexadecimal digit in lower case
abbrev pub digit : ℕ → ℕ
digit c = if nat_lt c 97 then c - 48 else c - 87

-- the byte below 32 that `\u00` and two hexadecimal digits mean
abbrev pub low_byte : ℕ → ℕ → ℕ
low_byte high low = if high == 49 then digit low + 16 else digit low
