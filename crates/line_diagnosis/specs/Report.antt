-- The message for a malformed line (a choice of this project, not fixed by the standard).
use Rattle.std.specs.Prelude.{ℕ, List, ◌++◌, Some, codes, length, take}
use Rattle.std.specs.Fmt.{decimal}
use Rattle.std.specs.Str.{chars}
use Rattle.std.specs.Str.Lossy.{utf8_lossy}
use Rattle.excerpt.specs.Message.{IsMessage}
use Rattle.line_diagnosis.specs.declared.diagnosis.Counted.{Counted}
use Rattle.line_diagnosis.specs.declared.diagnosis.Counted.TheVariants.{Characters, Bytes}
use Rattle.line_diagnosis.specs.declared.diagnosis.Diagnosis.{Diagnosis}
use Rattle.line_diagnosis.specs.Explained.{IsExplained}

abbrev pub unit : Counted → List ℕ
unit Characters = codes "column"
unit Bytes = codes "byte"

-- `line NUMBER, column COLUMN`, or `byte` in place of `column`
abbrev pub place_words : ℕ → Counted → ℕ → List ℕ
place_words number counted column =
    codes "line "
    ++ (decimal number ++ (codes ", " ++ (unit counted ++ (codes " " ++ decimal column))))

-- The message names the number of the line and the column of its place. It has the excerpt of the
-- line, with the caret under the place. There U+FFFD replaces bytes that are no character.
pub record IsReport (number : ℕ) (line bytes : List ℕ) : Type 0 where
  pub diagnosis : Diagnosis
  pub explained : IsExplained line diagnosis
  pub message : IsMessage (Some (place_words number diagnosis.counted diagnosis.column))
      (chars (utf8_lossy line)) (length (chars (take diagnosis.offset line))) bytes
