-- The texts of notes (a choice of this project).
use Rattle.std.specs.Prelude.{◌≡◌, ◌==◌, ◌≤◌, ◌<◌, ◌++◌, ◌^◌, ℕ, Bool, true, List, [], All, AllPairs, codes, decimal, flat_map, length, string_bytes, if◌then◌else◌}
use Rattle.expression_errors.specs.declared.counts.Tally.{Tally}
use Rattle.query_notes.specs.Speaking.{speaks}
use Rattle.query_notes.specs.declared.notes.RowNote.{RowNote}

-- the largest number of notes on rows
abbrev pub most_notes : ℕ
most_notes = 10

-- A note begins with `spq: note: ` and ends with a line feed.
pub record IsNote (text : List ℕ) : Type 0 where
  pub words : List ℕ
  pub whole : text ≡ codes "spq: note: " ++ (words ++ codes "\n")

-- the words before a number that is the least one
abbrev pub least_of : Bool → List ℕ
least_of is_partial = if is_partial then codes "at least " else []

abbrev pub noun_of : ℕ → List ℕ
noun_of rows = if rows == 1 then codes "row" else codes "rows"

-- The text is the note on a count: after the places it has the number of rows of the count.
pub record IsNoteOf (tally : Tally) (text : List ℕ) : Type 0 where
  pub places : List ℕ
  pub loss : List ℕ
  pub reason : List ℕ
  pub whole : text ≡ codes "spq: note: " ++ (places ++ (codes ": " ++ (least_of tally.is_partial ++ (decimal tally.rows ++ (codes " " ++ (noun_of tally.rows ++ (codes " " ++ (loss ++ (codes ", since " ++ (reason ++ codes "\n"))))))))))

-- A note on rows is the note on a count that speaks and is not zero.
pub record IsRowNote (note : RowNote) : Type 0 where
  pub tally : Tally
  pub speaks : speaks tally ≡ true
  pub some : 0 < tally.rows
  pub rows : note.rows ≡ tally.rows
  pub fits : note.rows < 2 ^ 64
  pub text : IsNoteOf tally (string_bytes note.text)

-- The text is a list of notes: first those on the query alone, then at most ten on rows, most rows first.
pub record AreNotes (text : List ℕ) : Type 0 where
  pub on_query : List (List ℕ)
  pub on_rows : List RowNote
  pub whole : text ≡ flat_map (λ note. note) on_query ++ flat_map (λ note. string_bytes note.text) on_rows
  pub notes : All IsNote on_query
  pub counted : All IsRowNote on_rows
  pub most_first : AllPairs (λ one later. later.rows ≤ one.rows) on_rows
  pub few : length on_rows ≤ most_notes
