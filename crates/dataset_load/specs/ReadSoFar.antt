-- What was read of a reader so far. Only private clauses use these definitions.
use Rattle.std.specs.Prelude.{◌≡◌, ℕ, List, ◌++◌, ◌⊎◌, Option}
use Rattle.std.specs.Io.KnownBytes.{Consumes, IsAtEnd}
use Rattle.nquads_core.specs.Lines.{lines, EndsLine}
use Rattle.nquads_core.specs.Pieces.{IsBadLine}
use Rattle.piece_cuts.specs.Blocks.{BothKnown}
use Rattle.dataset_load.specs.declared.numbered.Numbered.{Numbered}
use Rattle.dataset_load.specs.Rounds.{HasRead}

-- What was read, what is kept and what is left are what there was.
abbrev pub IsReadIn : Option (List ℕ) → Option (List ℕ) → List ℕ → List ℕ → Type 0
IsReadIn left left' done kept = BothKnown left left' (λ xs ys. xs ≡ done ++ (kept ++ ys))

-- The bytes are the front of what was kept and left, and the rest is kept and left now.
abbrev pub TakesRound : Option (List ℕ) → Option (List ℕ) → List ℕ → List ℕ → List ℕ → Type 0
TakesRound left left' kept kept' bytes = BothKnown left left' (λ xs ys. kept ++ xs ≡ bytes ++ (kept' ++ ys))

-- The bytes are what was kept and left, up to what is left now.
abbrev pub TakesRest : Option (List ℕ) → Option (List ℕ) → List ℕ → List ℕ → Type 0
TakesRest left left' kept bytes = BothKnown left left' (λ xs ys. kept ++ xs ≡ bytes ++ ys)

-- P holds of the lines of what was read before the bytes that are kept and left, and no line goes on in these bytes.
pub record IsUpTo (P : List (List ℕ) → Type 0) (left left' : Option (List ℕ)) (kept : List ℕ) : Type 0 where
  pub done : List ℕ
  pub bytes : IsReadIn left left' done kept
  pub whole : EndsLine done
  pub read : P (lines done)

-- The reader was read to its end, and P holds of the lines of what was read.
pub record IsToEnd (P : List (List ℕ) → Type 0) (left left' : Option (List ℕ)) : Type 0 where
  pub doc : List ℕ
  pub consumed : Consumes left left' doc
  pub at_end : IsAtEnd left'
  pub read : P (lines doc)

-- The lines of what was read before the bytes that are kept and left are numbered, and none goes on in
-- these bytes.
abbrev pub IsReadUpTo : Option (List ℕ) → Option (List ℕ) → List ℕ → Numbered → Type 0
IsReadUpTo left left' kept so_far = IsUpTo (HasRead so_far) left left' kept

-- The reader was read to its end, and the lines of what was read are numbered.
abbrev pub IsReadFrom : Option (List ℕ) → Option (List ℕ) → Numbered → Type 0
IsReadFrom left left' so_far = IsToEnd (HasRead so_far) left left'

-- The line is the first malformed one of what was read so far. No line goes on in the bytes that are kept
-- and left, or the reader was read to its end.
pub record IsBadSoFar (left left' : Option (List ℕ)) (line : ℕ) : Type 0 where
  pub done : List ℕ
  pub bad : IsBadLine (lines done) line
  pub rest : ((kept : List ℕ) × IsReadIn left left' done kept × EndsLine done)
      ⊎ (Consumes left left' done × IsAtEnd left')
