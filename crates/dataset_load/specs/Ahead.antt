-- A round of blocks that was read, and whose lines are not added yet. Only private clauses use these definitions.
use Rattle.std.specs.Prelude.{◌≡◌, ℕ, ◌+◌, ◌≤◌, List, ◌++◌, length, true, false, Option}
use Rattle.std.specs.Io.KnownBytes.{Consumes, IsAtEnd}
use Rattle.nquads_core.specs.Lines.{lines, EndsLine}
use Rattle.piece_cuts.specs.Blocks.{BothKnown}
use Rattle.dataset_load.specs.declared.numbered.Numbered.{Numbered}
use Rattle.dataset_load.specs.declared.reader.RoundBlocks.{RoundBlocks}
use Rattle.dataset_load.specs.Limits.{least_bytes_of_a_round, most_pieces_of_a_round}
use Rattle.dataset_load.specs.Lines.{AreWholeLines, EachEnds, block_texts, joined}
use Rattle.dataset_load.specs.Rounds.{HasRead}
use Rattle.dataset_load.specs.ReadSoFar.{IsReadIn, TakesRest, TakesRound}

-- the texts of the blocks of a round
abbrev pub texts_of : RoundBlocks → List (List ℕ)
texts_of round = block_texts round.blocks.items

-- The blocks are whole lines. They are the front of what was kept and left, and what is kept and left now follows; or
-- they are all of it, and the reader is at its end.
pub record IsNextRound (left left' : Option (List ℕ)) (kept kept' : List ℕ) (round : RoundBlocks) : Type 0 where
  pub few : length round.blocks.items ≤ most_pieces_of_a_round
  pub whole_lines : AreWholeLines (texts_of round)
  pub long : round.is_last ≡ false → least_bytes_of_a_round ≤ length (joined (texts_of round))
  pub more : round.is_last ≡ false → EachEnds (texts_of round) × TakesRound left left' kept kept' (joined (texts_of round))
  pub last : round.is_last ≡ true → TakesRest left left' kept (joined (texts_of round)) × IsAtEnd left'

-- At least this number of the bytes that were left before is neither kept nor left now.
abbrev pub IsSpent : ℕ → Option (List ℕ) → Option (List ℕ) → List ℕ → Type 0
IsSpent n left left' kept = BothKnown left left' (λ xs ys. n + (length kept + length ys) ≤ length xs)

-- There is a round after this one, so this is not the last one. The one after it has taken the bytes of a round, unless it is
-- the last one.
abbrev pub Spends : Option (List ℕ) → Option (List ℕ) → List ℕ → List ℕ → RoundBlocks → RoundBlocks → Type 0
Spends left left' kept kept' round next =
    (round.is_last ≡ false)
    × (next.is_last ≡ false → (n : ℕ) (start : Option (List ℕ)) → IsSpent n start left kept → IsSpent (n + least_bytes_of_a_round) start left' kept')

-- P holds of the lines before this round. What is kept and left now follows its blocks; or nothing does, and the
-- reader is at its end.
pub record IsAhead (P : List (List ℕ) → Type 0) (left left' : Option (List ℕ)) (kept : List ℕ) (round : RoundBlocks) : Type 0 where
  pub done : List ℕ
  pub whole : EndsLine done
  pub read : P (lines done)
  pub few : length round.blocks.items ≤ most_pieces_of_a_round
  pub whole_lines : AreWholeLines (texts_of round)
  pub more : round.is_last ≡ false → EachEnds (texts_of round) × IsReadIn left left' (done ++ joined (texts_of round)) kept
  pub last : round.is_last ≡ true → Consumes left left' (done ++ joined (texts_of round)) × IsAtEnd left'

-- The lines before this round are numbered.
abbrev pub IsReadAhead : Option (List ℕ) → Option (List ℕ) → List ℕ → Numbered → RoundBlocks → Type 0
IsReadAhead left left' kept so_far round = IsAhead (HasRead so_far) left left' kept round
