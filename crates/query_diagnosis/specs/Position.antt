-- Lines and columns of a text, counted from 1 (a choice of this project, not fixed by the standard).
-- A text is a list of characters, and a place in it is the number of characters before the place.
use Rattle.std.specs.Prelude.{◌≡◌, ℕ, zero, suc, ◌+◌, ◌-◌, List, [], ◌∷◌, Bool, true, false, ◌&&◌, ◌||◌, not, nat_eq, drop, Option, Some, None, if◌then◌else◌}
use Rattle.std.specs.List.{slice_get}
use Rattle.sparql_lexer.specs.Characters.{is_line_end}
use Rattle.query_diagnosis.specs.declared.places.Position.{Position}

-- it is this character
abbrev pub is_this : Option ℕ → ℕ → Bool
is_this None c = false
is_this (Some d) c = nat_eq d c

-- the text has this character at the place
abbrev pub has_at : List ℕ → ℕ → ℕ → Bool
has_at text at c = is_this (slice_get text at) c

-- A line ends after the character at the place: LF, or a CR that no LF follows. So LF, CR and CR LF
-- are line ends.
abbrev pub ends_line : List ℕ → ℕ → Bool
ends_line text at = has_at text at 10 || (has_at text at 13 && not (has_at text (at + 1) 10))

-- the number of the line of the place: 1, and 1 more for each line that ends before it
abbrev pub line_number : List ℕ → ℕ → ℕ
line_number text zero = 1
line_number text (suc at) = if ends_line text at then line_number text at + 1 else line_number text at

-- the place at which this line begins
abbrev pub line_start : List ℕ → ℕ → ℕ
line_start text zero = 0
line_start text (suc at) = if ends_line text at then suc at else line_start text at

-- the column of the place: the characters of the line before it, and 1
abbrev pub column_of : List ℕ → ℕ → ℕ
column_of text at = (at - line_start text at) + 1

-- the characters before the first LF or CR
abbrev pub before_line_end : List ℕ → List ℕ
before_line_end [] = []
before_line_end (c ∷ cs) = if is_line_end c then [] else c ∷ before_line_end cs

-- the line of the place, without its line end
abbrev pub line_of : List ℕ → ℕ → List ℕ
line_of text at = before_line_end (drop (line_start text at) text)

-- the line and the column of the place
pub record IsPosition (text : List ℕ) (at : ℕ) (p : Position) : Type 0 where
  pub line : p.line ≡ line_number text at
  pub column : p.column ≡ column_of text at
