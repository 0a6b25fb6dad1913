-- The column of a place, counted from 1 (a choice of this project, not fixed by the standard).
use Rattle.std.specs.Prelude.{ℕ, ◌+◌, List, length}
use Rattle.std.specs.Str.{chars}
use Rattle.line_diagnosis.specs.declared.diagnosis.Counted.{Counted}
use Rattle.line_diagnosis.specs.declared.diagnosis.Counted.TheVariants.{Characters, Bytes}

-- the column after these bytes, in characters or in bytes
abbrev pub column_of : Counted → List ℕ → ℕ
column_of Characters front = length (chars front) + 1
column_of Bytes front = length front + 1
