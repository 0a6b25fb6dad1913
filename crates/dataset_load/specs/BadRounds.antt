-- The round with the first malformed line, and the list of it and of the rounds after it. Only private clauses use these definitions.
use Rattle.std.specs.Prelude.{◌≡◌, ℕ, ◌++◌, ◌^◌, ◌≤◌, List, length, false, IfSome, MatchOption, Option}
use Rattle.rdf_core.specs.QuadParts.{QuadParts}
use Rattle.nquads_core.specs.Pieces.{HaveStatements, IsBadLine}
use Rattle.piece_cuts.specs.Blocks.{BlocksView}
use Rattle.piece_cuts.specs.declared.blocks.BlockState.TheVariants.{Reading}
use Rattle.malformed_lines.specs.Malformed.{IsListed}
use Rattle.malformed_lines.specs.declared.document_list.MalformedLines.{MalformedLines}
use Rattle.dataset_load.specs.declared.bad_round.BadRound.{BadRound}
use Rattle.dataset_load.specs.Limits.{most_pieces_of_a_round}
use Rattle.dataset_load.specs.Lines.{all_lines}
use Rattle.nquads_core.specs.Transfer.{IsReadInPart}
use Rattle.piece_pool.specs.declared.pool.PoolFault.{PoolFault}
use Rattle.dataset_load.specs.declared.load_notes.Listing.{Listing}
use Rattle.dataset_load.specs.declared.reader_fault.ReaderFault.{ReaderFault}
use Rattle.dataset_load.specs.Causes.{IsCaused, IsStopped}
use Rattle.dataset_load.specs.Listing.{IsListing}
use Rattle.dataset_load.specs.ReaderFault.{IfBadLineRead}
use Rattle.dataset_load.specs.Streaming.{IsBadLineFrom}
use Rattle.dataset_load.specs.Ahead.{IsAhead, IsSpent, texts_of}
use Rattle.dataset_load.specs.ReadSoFar.{IsBadSoFar, IsToEnd}

-- the list of these lines, of which line n is the first that is malformed
pub record IsBadList (n : ℕ) (list : MalformedLines) (ls : List (List ℕ)) : Type 0 where
  pub bad : IsBadLine ls n
  pub listed : IsListed ls list

-- The round and the one after it can be listed, and the lines can be counted.
pub record IsReady (blocks : BlocksView) (bad : BadRound) : Type 0 where
  pub countable : bad.before ≤ 2 ^ 124
  pub few : length bad.round.blocks.items ≤ most_pieces_of_a_round
  pub few_next : IfSome bad.next (λ round. length round.blocks.items ≤ most_pieces_of_a_round)
  pub reading : IfSome bad.next (λ round. round.is_last ≡ false → blocks.state ≡ Reading)

-- What is known of a reader whose malformed lines were listed, and of the fault that loading it returns.
pub record IsListedAfter (fails : PoolFault → Type 0) (start left : Option (List ℕ)) (malformed : Option Listing) (fault : ReaderFault) : Type 0 where
  pub bad_line : IfBadLineRead (IsBadLineFrom start left) fault
  pub listed : IfBadLineRead (λ _. IsListing start left malformed) fault
  pub stopped : IfBadLineRead (λ _. IsStopped fails start malformed) fault
  pub taken : IsReadInPart start left
  pub cause : IsCaused fails start fault

-- Line n is the first malformed one, and it is in this round. The round after it was read, or the reader is at its end.
pub record IsBadRound (left left' : Option (List ℕ)) (kept : List ℕ) (n : ℕ) (bad : BadRound) : Type 0 where
  pub so_far : IsBadSoFar left left' n
  pub before : List (List ℕ)
  pub quads : List QuadParts
  pub statements : HaveStatements before quads
  pub count : bad.before ≡ length before
  pub within : IfSome bad.next (λ round. round.is_last ≡ false → IsSpent 0 left left' kept)
  pub next : (list : MalformedLines) → IsListed (before ++ all_lines (texts_of bad.round)) list
      → MatchOption bad.next (IsToEnd (IsBadList n list) left left') (IsAhead (IsBadList n list) left left' kept)
