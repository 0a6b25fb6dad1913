-- The statements of the laws of this crate.
use Rattle.std.specs.Prelude.{◌≡◌, ℕ, ◌+◌, ◌<◌, ◌≤◌, List, [], ◌∷◌, ◌++◌, length, slice_range, slice_get, flat_map, Some, ◌⊎◌}
use Rattle.piece_cuts.specs.Cuts.{AreCuts, AreEveryFrom, piece_at}
use Rattle.piece_cuts.specs.Blocks.{IsFirstPiece}

-- the pieces from a start on, in order
abbrev pub pieces_from : List ℕ → ℕ → List ℕ → List (List ℕ)
pieces_from doc start [] = slice_range doc start (length doc) ∷ []
pieces_from doc start (p ∷ ps) = slice_range doc start p ∷ pieces_from doc p ps

-- all the pieces of a document that is split at these places
abbrev pub pieces_of : List ℕ → List ℕ → List (List ℕ)
pieces_of doc places = pieces_from doc 0 places

-- the last byte is a line feed
abbrev pub EndsWithLineFeed : List ℕ → Type 0
EndsWithLineFeed piece = (front : List ℕ) × (piece ≡ front ++ 10 ∷ [])

-- The pieces by number are all the pieces. Concatenated, they are the document, and each piece but
-- the last ends with a line feed.
pub record ArePiecesOf (doc places : List ℕ) : Type 0 where
  pub each : (i : ℕ) → i < length places + 1
      → slice_get (pieces_of doc places) i ≡ Some (piece_at doc places i)
  pub joined : flat_map (λ piece. piece) (pieces_of doc places) ≡ doc
  pub whole_lines : (i : ℕ) → i < length places → EndsWithLineFeed (piece_at doc places i)

-- the pieces at any cuts of a document
abbrev pub PiecesAreTheDocument : Type 0
PiecesAreTheDocument = (doc places : List ℕ) → AreCuts doc places → ArePiecesOf doc places

-- The pieces of a nonempty text are its first piece, followed by the pieces of the rest, unless the
-- rest is empty.
abbrev pub FirstPieceThenTheRest : Type 0
FirstPieceThenTheRest =
    (size : ℕ) (text piece rest places : List ℕ) → 1 ≤ size → 0 < length text
    → IsFirstPiece size text piece rest → AreEveryFrom text size 0 places
    → ((rest ≡ []) × (pieces_of text places ≡ piece ∷ []))
    ⊎ ((later : List ℕ) × (0 < length rest) × AreEveryFrom rest size 0 later
    × (pieces_of text places ≡ piece ∷ pieces_of rest later))
