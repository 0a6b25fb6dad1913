-- Lines that are cut off a text one by one. Only private clauses use these definitions.
use Rattle.std.specs.Prelude.{◌≡◌, ◌≢◌, ℕ, ◌<◌, List, ◌∷◌, length, slice_index}
use Rattle.nquads_core.specs.Lines.{lines}

-- no byte is LF or CR
abbrev pub IsOneLine : List ℕ → Type 0
IsOneLine line = (i : ℕ) → i < length line → (slice_index line i ≢ 10) × (slice_index line i ≢ 13)

-- no byte is CR
abbrev pub HasNoCr : List ℕ → Type 0
HasNoCr text = (i : ℕ) → i < length text → slice_index text i ≢ 13

-- the text is one line and then the lines of the rest
abbrev pub IsLineAfter : List ℕ → List ℕ → Type 0
IsLineAfter text rest = (line : List ℕ) × (lines text ≡ line ∷ lines rest)
