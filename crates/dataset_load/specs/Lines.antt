-- The lines of a document that is split into pieces. RDF 1.1 N-Quads, grammar, EOL, says what ends a line.
use Rattle.std.specs.Prelude.{◌≡◌, ℕ, ◌+◌, ◌<◌, List, [], length, map, slice_index_or, Vec}
use Rattle.std.specs.Global.{Global}
use Rattle.std.specs.List.{flat_map}
use Rattle.std.specs.Borrow.{Bor}
use Rattle.nquads_core.specs.Lines.{lines, EndsLine}
use Rattle.piece_cuts.specs.Cuts.{AreEveryFrom}
use Rattle.piece_cuts.specs.Laws.{pieces_of}

-- the bytes of borrowed pieces, and of blocks
abbrev pub texts : List (Bor (List ℕ)) → List (List ℕ)
texts pieces = map (λ piece. piece.now) pieces

-- the bytes of owned blocks
abbrev pub block_texts : List (Vec ℕ Global) → List (List ℕ)
block_texts blocks = map (λ block. block.items) blocks

-- all pieces, one after the other
abbrev pub joined : List (List ℕ) → List ℕ
joined pieces = flat_map (λ piece. piece) pieces

-- no line goes over the end of a piece: each but the last is empty or ends with a line feed
abbrev pub AreWholeLines : List (List ℕ) → Type 0
AreWholeLines pieces = (i : ℕ) → i + 1 < length pieces → EndsLine (slice_index_or pieces i [])

-- each of the texts is empty or ends with a line feed
abbrev pub EachEnds : List (List ℕ) → Type 0
EachEnds pieces = (i : ℕ) → i < length pieces → EndsLine (slice_index_or pieces i [])

-- The blocks that a text is read in: none of the empty text, and otherwise its pieces at the cuts of
-- this size, which a text has one list of (piece_cuts, `Cuts::every`).
abbrev pub AreBlocksOf : ℕ → List ℕ → List (List ℕ) → Type 0
AreBlocksOf size text blocks =
    (length text ≡ 0 → blocks ≡ [])
    × ((places : List ℕ) → 0 < length text → AreEveryFrom text size 0 places
    → blocks ≡ pieces_of text places)

-- Words that only private clauses cite.

-- the lines of all pieces, piece by piece
abbrev pub all_lines : List (List ℕ) → List (List ℕ)
all_lines pieces = flat_map lines pieces

-- piece i, and no bytes after the last one
abbrev pub text_at : List (Bor (List ℕ)) → ℕ → List ℕ
text_at pieces i = slice_index_or (texts pieces) i []
