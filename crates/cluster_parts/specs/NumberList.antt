-- How a list of numbers below 2^64 is written (a choice of this project). Ascending numbers that are close to each other have
-- small differences, so their text is short.
use Rattle.std.specs.Prelude.{ℕ, ◌+◌, ◌-◌, ◌<◌, ◌%◌, ◌^◌, List, [], ◌∷◌, fold, max, nat_lt, if◌then◌else◌}
use Rattle.std.specs.List.{All, flat_map}
use Rattle.byteorder.specs.Endian.{little_bytes}

-- each number fits into eight bytes
abbrev pub FitInEightBytes : List ℕ → Type 0
FitInEightBytes numbers = All (λ n. n < 2 ^ 64) numbers

-- a number less the one before it, modulo 2^64
abbrev pub difference : ℕ → ℕ → ℕ
difference before n = (n + (2 ^ 64 - before)) % 2 ^ 64

-- each number of a list less the one before it, and the first less `before`
abbrev pub differences : ℕ → List ℕ → List ℕ
differences before [] = []
differences before (n ∷ numbers) = difference before n ∷ differences n numbers

-- how many bytes a number below 2^64 needs, but at least one
abbrev pub byte_count : ℕ → ℕ
byte_count n =
    if nat_lt n (256 ^ 1) then 1
    else (if nat_lt n (256 ^ 2) then 2
    else (if nat_lt n (256 ^ 3) then 3
    else (if nat_lt n (256 ^ 4) then 4
    else (if nat_lt n (256 ^ 5) then 5
    else (if nat_lt n (256 ^ 6) then 6
    else (if nat_lt n (256 ^ 7) then 7 else 8))))))

-- how many bytes the largest of some numbers needs
unfoldable pub width : List ℕ → ℕ
width numbers = byte_count (fold max 0 numbers)

-- numbers in this many bytes each, the lowest byte first
abbrev pub in_bytes : ℕ → List ℕ → List ℕ
in_bytes count numbers = flat_map (little_bytes count) numbers

-- the text of a list: one byte with the width of the differences, and the differences
unfoldable pub number_list : List ℕ → List ℕ
number_list numbers = let found = differences 0 numbers in width found ∷ in_bytes (width found) found
