-- The message for a rejected query (a choice of this project, not fixed by the standard).
use Rattle.std.specs.Prelude.{ℕ, List, ◌++◌, ◌-◌, Some, codes}
use Rattle.std.specs.Fmt.{decimal}
use Rattle.excerpt.specs.Message.{IsMessage}
use Rattle.sparql_read.specs.declared.fault.QueryFault.{QueryFault}
use Rattle.sparql_read.specs.Rejection.{IsRejectedBy}
use Rattle.query_diagnosis.specs.Place.{IsPlace}
use Rattle.query_diagnosis.specs.Position.{line_number, line_start, line_of, column_of}

-- `line LINE, column COLUMN`
abbrev pub position_words : ℕ → ℕ → List ℕ
position_words line column = codes "line " ++ (decimal line ++ (codes ", column " ++ decimal column))

-- `query, line LINE, column COLUMN`
abbrev pub place_words : ℕ → ℕ → List ℕ
place_words line column = codes "query, " ++ position_words line column

-- The message names the line and the column of the place. It has the excerpt of this line, with the
-- caret under the place.
abbrev pub IsMessageAt : List ℕ → ℕ → List ℕ → Type 0
IsMessageAt text at bytes = IsMessage (Some (place_words (line_number text at) (column_of text at))) (line_of text at) (at - line_start text at) bytes

-- a message about the rule that rejects the text, at its place
pub record IsReport (text bytes : List ℕ) : Type 0 where
  pub fault : QueryFault
  pub rejected : IsRejectedBy text fault
  pub at : ℕ
  pub place : IsPlace text fault at
  pub message : IsMessageAt text at bytes
