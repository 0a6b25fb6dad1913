-- The diagnosis of a line (a choice of this project, not fixed by the standard).
use Rattle.std.specs.Prelude.{◌≡◌, ℕ, List, take}
use Rattle.std.specs.Str.{IsUtf8}
use Rattle.line_diagnosis.specs.declared.diagnosis.Counted.TheVariants.{Bytes, Characters}
use Rattle.line_diagnosis.specs.declared.diagnosis.Diagnosis.{Diagnosis}
use Rattle.line_diagnosis.specs.Place.{IsPlace}
use Rattle.line_diagnosis.specs.Column.{column_of}
use Rattle.line_diagnosis.specs.Reasons.{IsReason}

-- The offset is the place of the line, the reason is true of it, and the column is that of this place.
-- The column counts characters if the line is UTF-8, and otherwise bytes.
pub record IsExplained (line : List ℕ) (d : Diagnosis) : Type 0 where
  pub place : IsPlace line d.offset
  pub reason : IsReason line d.offset d.reason
  pub column : d.column ≡ column_of d.counted (take d.offset line)
  pub characters : d.counted ≡ Characters → IsUtf8 line
  pub bytes : d.counted ≡ Bytes → IsUtf8 line → ⊥
