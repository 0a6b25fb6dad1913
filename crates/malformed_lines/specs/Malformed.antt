-- The malformed lines of a document (RDF 1.1 N-Quads, grammar). That they are listed, and how many, is a choice of this
-- project.
use Rattle.std.specs.Prelude.{◌≡◌, ◌⊎◌, ◌++◌, ℕ, ◌+◌, ◌<◌, ◌≤◌, ◌==◌, ◌&&◌, List, [], ◌∷◌, length, map, take, nat_le, Option, Some}
use Rattle.std.specs.List.{All, AllZip, slice_get}
use Rattle.rdf_core.specs.QuadParts.{QuadParts}
use Rattle.nquads_core.specs.Grammar.{HasStatement, IsMalformed}
use Rattle.malformed_lines.specs.Counts.{IsTally, NameLinesFrom}
use Rattle.malformed_lines.specs.declared.reason_counts.ReasonCount.{ReasonCount}
use Rattle.malformed_lines.specs.declared.piece_list.FoundLine.{FoundLine}
use Rattle.malformed_lines.specs.declared.piece_list.PieceList.{PieceList}
use Rattle.malformed_lines.specs.declared.document_list.MalformedLine.{MalformedLine}
use Rattle.malformed_lines.specs.declared.document_list.MalformedLines.{MalformedLines}

-- the largest number of lines that are kept
abbrev pub most_shown : ℕ
most_shown = 20

-- the largest number of bytes of a line that are kept: 2^20
abbrev pub most_kept : ℕ
most_kept = 1048576

-- These are the numbers of the malformed lines, in order, if the first line has number n. Every other line is
-- well-formed.
abbrev pub AreMalformedFrom : ℕ → List (List ℕ) → List ℕ → Type 0
AreMalformedFrom n [] numbers = numbers ≡ []
AreMalformedFrom n (line ∷ lines) numbers =
    (IsMalformed line × ((more : List ℕ) × (numbers ≡ n ∷ more) × AreMalformedFrom (n + 1) lines more))
    ⊎ (((q : Option QuadParts) × HasStatement line q) × AreMalformedFrom (n + 1) lines numbers)

-- the numbers of the malformed lines, counted from 1
abbrev pub AreMalformed : List (List ℕ) → List ℕ → Type 0
AreMalformed lines numbers = AreMalformedFrom 1 lines numbers

-- the line of this place, counted from 0
abbrev pub IsFound : List (List ℕ) → FoundLine → Type 0
IsFound lines found = slice_get lines found.place ≡ Some found.bytes.now

-- The last byte of a text is this one.
abbrev pub EndsWith : ℕ → List ℕ → Type 0
EndsWith last bytes = (front : List ℕ) × (bytes ≡ front ++ last ∷ [])

-- A text ends inside of a line: its last line has no line end (RDF 1.1 N-Quads, EOL).
pub record EndsInside (bytes : List ℕ) : Type 0 where
  pub some : bytes ≡ [] → ⊥
  pub no_line_feed : EndsWith 10 bytes → ⊥
  pub no_carriage_return : EndsWith 13 bytes → ⊥

-- One count for each malformed line, in order. These are the numbers of the lines, from n on.
pub record AreSingles (n : ℕ) (lines : List (List ℕ)) (numbers : List ℕ) (singles : List ReasonCount) : Type 0 where
  pub numbered : map (λ c. c.first) singles ≡ numbers
  pub ones : All (λ c. c.count ≡ 1) singles
  pub named : NameLinesFrom n lines singles

-- The list of a piece with these lines: the first twenty malformed ones, counted from 0, how many there are, and how many
-- with each reason. The count of a reason names the first of its lines.
pub record IsListOf (lines : List (List ℕ)) (list : PieceList) : Type 0 where
  pub places : List ℕ
  pub malformed : AreMalformedFrom 0 lines places
  pub shown : map (λ f. f.place) list.shown.items ≡ take most_shown places
  pub found : All (IsFound lines) list.shown.items
  pub named : NameLinesFrom 0 lines list.reasons.counts.items
  pub singles : List ReasonCount
  pub one_each : AreSingles 0 lines places singles
  pub tally : IsTally singles list.reasons.counts.items
  pub total : list.total ≡ length places
  pub count : list.lines ≡ length lines

-- These are the line's bytes, or the first of them, and it is whole if they are all.
pub record IsKeptOf (line : List ℕ) (kept : MalformedLine) : Type 0 where
  pub bytes : kept.bytes.items ≡ take most_kept line
  pub whole : kept.is_whole ≡ nat_le (length line) most_kept

-- the line with this number, counted from 1, or its first bytes
pub record IsShown (lines : List (List ℕ)) (shown : MalformedLine) : Type 0 where
  pub place : ℕ
  pub number : shown.number ≡ place + 1
  pub line : List ℕ
  pub at_place : slice_get lines place ≡ Some line
  pub kept : IsKeptOf line shown

-- The list of a document with these lines: the first twenty malformed ones by their numbers, how many there are, and how
-- many with each reason. The count of a reason names the first of its lines.
pub record IsListed (lines : List (List ℕ)) (list : MalformedLines) : Type 0 where
  pub numbers : List ℕ
  pub malformed : AreMalformed lines numbers
  pub shown : map (λ s. s.number) list.shown.items ≡ take most_shown numbers
  pub each : All (IsShown lines) list.shown.items
  pub named : NameLinesFrom 1 lines list.reasons.counts.items
  pub singles : List ReasonCount
  pub one_each : AreSingles 1 lines numbers singles
  pub tally : IsTally singles list.reasons.counts.items
  pub total : list.total ≡ length numbers
  pub count : list.lines ≡ length lines

-- The line of a document that a malformed line of a piece is, if this many lines are before the piece. It is cut if it is the
-- last line of the piece and has no line end.
pub record IsCopy (before : ℕ) (piece : PieceList) (found : FoundLine) (shown : MalformedLine) : Type 0 where
  pub number : shown.number ≡ before + (found.place + 1)
  pub kept : IsKeptOf found.bytes.now shown
  pub cut : shown.is_cut ≡ piece.is_open && (found.place + 1) == piece.lines

-- copies of the first malformed lines of a piece come after the others, until twenty are kept
pub record AreKept (before : ℕ) (piece : PieceList) (old new : List MalformedLine) : Type 0 where
  pub copies : List MalformedLine
  pub added : new ≡ old ++ copies
  pub each : AllZip (IsCopy before piece) (take (length copies) piece.shown.items) copies
  pub all : (length copies ≡ length piece.shown.items) ⊎ (most_shown ≤ length new)
  pub few : (length new ≤ most_shown) ⊎ (new ≡ old)

-- Words that only private clauses cite.

-- the line with this place is kept after the others, unless twenty are kept
abbrev pub IsKept : List FoundLine → ℕ → List ℕ → List FoundLine → Type 0
IsKept old place bytes new =
    ((length old < most_shown) × ((found : FoundLine) × (new ≡ old ++ found ∷ []) × (found.place ≡ place) × (found.bytes.now ≡ bytes)))
    ⊎ ((most_shown ≤ length old) × (new ≡ old))
