-- The blocks of a document that is read in parts (a choice of this project).
use Rattle.std.specs.Prelude.{◌≡◌, ◌≢◌, ℕ, ◌<◌, ◌≤◌, ◌-◌, slice_index, List, [], ◌∷◌, ◌++◌, length, ⊤, ◌⊎◌, Option, Some, None, Result, Ok, Err, IfOk, Vec}
use Rattle.std.specs.Global.{Global}
use Rattle.std.specs.Io.KnownBytes.{Consumes}
use Rattle.piece_cuts.specs.Cuts.{IsNextCut, HasNoNextCut}
use Rattle.nquads_core.specs.declared.transfer.ReadFault.{ReadFault}
use Rattle.piece_cuts.specs.declared.blocks.BlockState.{BlockState}
use Rattle.piece_cuts.specs.declared.blocks.BlockState.TheVariants.{Reading, Ended, Failed}

-- the least size of a block, the bytes that are read but not returned, and what the next call does
pub record BlocksView : Type 0 where
  pub size : ℕ
  pub kept : List ℕ
  pub state : BlockState

-- the front of a text up to its first cut, or the whole text if it has none
pub record IsFirstPiece (size : ℕ) (text piece rest : List ℕ) : Type 0 where
  pub joined : text ≡ piece ++ rest
  pub cut : IsNextCut text size 0 (length piece) ⊎ (HasNoNextCut text size 0 × (rest ≡ []))

-- None if the text is empty, and its first piece otherwise
abbrev pub GivesBlock : ℕ → List ℕ → List ℕ → Option (Vec ℕ Global) → Type 0
GivesBlock size text rest None = text ≡ []
GivesBlock size text rest (Some b) = (0 < length text) × IsFirstPiece size text b.items rest

-- P of the bytes left before and after, if they are known
abbrev pub BothKnown : Option (List ℕ) → Option (List ℕ) → (List ℕ → List ℕ → Type 0) → Type 0
BothKnown None left' P = ⊤
BothKnown (Some xs) None P = ⊥
BothKnown (Some xs) (Some ys) P = P xs ys

-- the text is the buffered bytes followed by what the reader has left
abbrev pub GivesKnownBlock : ℕ → List ℕ → Option (List ℕ) → List ℕ → Option (List ℕ) → Result (Option (Vec ℕ Global)) ReadFault → Type 0
GivesKnownBlock size kept left kept' left' r = IfOk r (λ b. BothKnown left left' (λ xs ys. GivesBlock size (kept ++ xs) (kept' ++ ys) b))

-- a block that ends with a line feed
abbrev pub IsWhole : Option (Vec ℕ Global) → Type 0
IsWhole None = ⊥
IsWhole (Some b) = (front : List ℕ) × (b.items ≡ front ++ 10 ∷ [])

-- what later calls return
abbrev pub state_after : {X : Type 0} → Result (Option X) ReadFault → BlockState
state_after (Ok None) = Ended
state_after (Ok (Some b)) = Reading
state_after (Err f) = Failed f

-- Definitions that only private clauses use.

-- the bytes that were appended are those that were taken from the reader
pub record Grows (left left' : Option (List ℕ)) (old new : List ℕ) : Type 0 where
  pub added : List ℕ
  pub appended : new ≡ old ++ added
  pub consumed : Consumes left left' added

-- all bytes before this place are there, and no cut is from the size on and before this place
abbrev pub HasNoCutUpTo : List ℕ → ℕ → ℕ → Type 0
HasNoCutUpTo bytes size searched =
    (q : ℕ) → size ≤ q → q < searched → (q ≤ length bytes) × (slice_index bytes (q - 1) ≢ 10)
