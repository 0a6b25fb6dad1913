-- The part of a line that a message shows, and the place of the caret (choices of this project, not
-- fixed by a standard). A text is a list of characters, and each character is shown in one column.
use Rattle.std.specs.Prelude.{ℕ, ◌+◌, ◌-◌, min, Bool, ◌||◌, ◌&&◌, List, [], ◌∷◌, ◌++◌, map, take, drop, length, replicate, ◌==◌, nat_le, nat_lt, if◌then◌else◌}
use Rattle.std.specs.Str.{encode_utf8_all}

-- the maximum number of columns that are shown
abbrev pub width : ℕ
width = 80

-- characters without a visible form: C1 controls, marks of direction, line and paragraph
-- separators, spaces of width 0, and the byte order mark
abbrev pub is_hidden : ℕ → Bool
is_hidden c =
    (nat_le 0x80 c && nat_le c 0x9F) || (nat_le 0x200B c && nat_le c 0x200F)
    || (nat_le 0x2028 c && nat_le c 0x202E) || (nat_le 0x2060 c && nat_le c 0x206F) || c == 0xFEFF

-- A control character is shown by its picture (from U+2400 on), and another hidden one as U+FFFD.
abbrev pub visible : ℕ → ℕ
visible c = if nat_lt c 32 then 0x2400 + c else if c == 127 then 0x2421 else if is_hidden c then 0xFFFD else c

-- the first column that is shown; the line has one more column than characters, for a caret at its
-- end
abbrev pub start_of : ℕ → ℕ → ℕ
start_of place len = min (place - 40) ((len + 1) - width)

-- an ellipsis in place of the first character that is shown, if characters before it are left out
abbrev pub front_of : ℕ → List ℕ
front_of start = if nat_lt 0 start then 0x2026 ∷ [] else []

-- an ellipsis in place of the last character that is shown, if characters after it are left out
abbrev pub back_of : ℕ → ℕ → List ℕ
back_of start len = if nat_lt (start + width) len then 0x2026 ∷ [] else []

abbrev pub first_of : ℕ → ℕ
first_of start = if nat_lt 0 start then start + 1 else 0

abbrev pub last_of : ℕ → ℕ → ℕ
last_of start len = if nat_lt (start + width) len then (start + width) - 1 else len

-- the characters from one place up to another, each in its visible form
abbrev pub seen : List ℕ → ℕ → ℕ → List ℕ
seen cs first last = map visible (take (last - first) (drop first cs))

abbrev pub shown : List ℕ → ℕ → List ℕ
shown cs start = front_of start ++ (seen cs (first_of start) (last_of start (length cs)) ++ back_of start (length cs))

-- the caret, after `indent` spaces
abbrev pub caret : ℕ → List ℕ
caret indent = replicate indent 32 ++ (94 ∷ [])

-- the two lines in UTF-8, each with its line feed
abbrev pub lines_at : List ℕ → ℕ → ℕ → List ℕ
lines_at cs place start = encode_utf8_all (shown cs start) ++ (10 ∷ (caret (place - start) ++ (10 ∷ [])))

-- a place after the end of the text counts as the end
abbrev pub excerpt_of : List ℕ → ℕ → List ℕ
excerpt_of cs place = lines_at cs (min place (length cs)) (start_of (min place (length cs)) (length cs))
