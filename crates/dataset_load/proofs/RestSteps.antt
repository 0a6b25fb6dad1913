-- The rounds of a reader that are listed.
use Rattle.std.proofs.Common.{◌≡◌, ℕ, List, ◌++◌, true, false, Option, Some, None, IfOk, IfSome, IsSomeAnd, MatchOption, OnErr, OnOk, Result, Ok, Err, refl, subst, inl, inr, ◌⊎◌, ◌≤◌, length}
use Rattle.std.specs.Io.KnownBytes.{Consumes, IsAtEnd}
use Rattle.nquads_core.specs.Lines.{EndsLine}
use Rattle.rdf_core.specs.QuadParts.{QuadParts}
use Rattle.nquads_core.specs.Pieces.{HaveStatements, IsBadLine}
use Rattle.nquads_core.specs.Transfer.{IsReadInPart}
use Rattle.nquads_core.specs.Device.{Stays}
use Rattle.nquads_core.proofs.TransferSteps.{Stays-rises, Stays-stays}
use Rattle.nquads_core.specs.declared.transfer.ReadFault.{ReadFault}
use Rattle.nquads_core.specs.declared.transfer.ReadFault.TheVariants.{Memory, Read}
use Rattle.piece_pool.specs.declared.pool.PoolFault.{PoolFault}
use Rattle.malformed_lines.specs.Malformed.{IsListed}
use Rattle.malformed_lines.specs.declared.document_list.MalformedLines.{MalformedLines}
use Rattle.dataset_load.specs.declared.reader.RoundBlocks.{RoundBlocks}
use Rattle.dataset_load.specs.Limits.{most_pieces_of_a_round}
use Rattle.dataset_load.specs.Lines.{all_lines}
use Rattle.dataset_load.specs.Ahead.{IsAhead, IsNextRound, texts_of}
use Rattle.dataset_load.specs.declared.bad_round.BadRound.{BadRound}
use Rattle.dataset_load.specs.declared.load_notes.Listing.{Listing}
use Rattle.dataset_load.specs.declared.reader_fault.ReaderFault.{ReaderFault}
use Rattle.dataset_load.specs.declared.reader_fault.ReaderFault.TheVariants.{BadLine, WorkerRefused, Memory as OutOfMemory, Read as ReadFailed}
use Rattle.dataset_load.specs.Causes.{IsCaused}
use Rattle.dataset_load.specs.FaultNames.{fault_of_read}
use Rattle.dataset_load.specs.Listing.{IsListedFrom}
use Rattle.dataset_load.specs.ReaderFault.{CountsLoading}
use Rattle.dataset_load.specs.BadRounds.{IsBadList, IsBadRound, IsListedAfter}
use Rattle.dataset_load.specs.Streaming.{IsBadLineFrom}
use Rattle.dataset_load.specs.ReadSoFar.{IsBadSoFar, IsReadIn, IsToEnd}
use Rattle.dataset_load.proofs.LineLaws.{bad_before}
use Rattle.dataset_load.proofs.ReaderSteps.{read_front}
use Rattle.dataset_load.proofs.StreamingSteps.{AddsLines, TakesPart, bad_ahead, few_after}

-- lines that follow do not matter
pub bad_more : (xs ys : List (List ℕ)) (n : ℕ) → IsBadLine xs n → IsBadLine (xs ++ ys) n
bad_more xs ys n bad = (bad.0, bad_before xs ys bad.0 bad.1, bad.2)

-- the list of a round is added to that of the lines before
abbrev pub ListsRound : MalformedLines → MalformedLines → RoundBlocks → Type 0
ListsRound old new round = (before : List (List ℕ)) → IsListed before old → IsListed (before ++ all_lines (texts_of round)) new

pub adds_list : {T E : Type 0} (n : ℕ) (old new : MalformedLines) (round : RoundBlocks) (listed : Result T E)
    → OnOk listed (ListsRound old new round) → OnOk listed (AddsLines (IsBadList n old) (IsBadList n new) round)
adds_list n old new round (Err e) h = tt
adds_list n old new round (Ok x) h = λ before was. record { bad = bad_more before (all_lines (texts_of round)) n was.bad; listed = h before was.listed }

-- the first malformed line is known, although the list stops
pub stopped : (n : ℕ) (b c : Option (List ℕ)) (kept : List ℕ) (list : MalformedLines) (round : RoundBlocks)
    → (round.is_last ≡ true → c ≡ b) → (round.is_last ≡ false → TakesPart b c kept)
    → (start : Option (List ℕ)) → IsAhead (IsBadList n list) start b kept round → IsBadSoFar start c n
stopped n b c kept list round ended taken start was =
    bad_ahead (IsBadList n list) start b c kept round was n ended taken (λ before h. bad_more before (all_lines (texts_of round)) n h.bad)

pub stopped_round : {T E : Type 0} (n : ℕ) (b c : Option (List ℕ)) (kept : List ℕ) (list : MalformedLines) (round : RoundBlocks) (r : Result T E)
    → (round.is_last ≡ true → c ≡ b) → (round.is_last ≡ false → TakesPart b c kept)
    → OnErr r ((start : Option (List ℕ)) → IsAhead (IsBadList n list) start b kept round → IsBadSoFar start c n)
stopped_round n b c kept list round (Ok x) ended taken = tt
stopped_round n b c kept list round (Err e) ended taken = stopped n b c kept list round ended taken

-- nothing is read after the round that is ahead
pub stopped_here : (n : ℕ) (b : Option (List ℕ)) (kept : List ℕ) (list : MalformedLines) (round : RoundBlocks)
    → (start : Option (List ℕ)) → IsAhead (IsBadList n list) start b kept round → IsBadSoFar start b n
stopped_here n b kept list round =
    stopped n b b kept list round (λ _. refl) (λ is start done h. record { taken = done ++ kept; consumed = read_front start b done kept h })

pub few_next : {E : Type 0} (b c : Option (List ℕ)) (kept kept' : List ℕ) (round : RoundBlocks) (next : Result (Option RoundBlocks) ReadFault) (r : Result (Option RoundBlocks) E)
    → (round.is_last ≡ true → (next ≡ Ok None) × (c ≡ b)) → (round.is_last ≡ false → IfOk next (λ n. IsSomeAnd n (IsNextRound b c kept kept')))
    → IfOk r (λ n. next ≡ Ok n) → IfOk r (λ n. IfSome n (λ x. length x.blocks.items ≤ most_pieces_of_a_round))
few_next b c kept kept' round next (Err e) ended filled is = tt
few_next b c kept kept' round next (Ok n) ended filled is = few_after b c kept kept' round next n ended filled is

-- ---- the round with the first malformed line

pub on_ok : {T E A B : Type 0} (r : Result T E) → OnOk r A → (A → B) → OnOk r B
on_ok (Ok x) h f = f h
on_ok (Err e) h f = tt

pub on_err : {T E A B : Type 0} (r : Result T E) → OnErr r A → (A → B) → OnErr r B
on_err (Ok x) h f = tt
on_err (Err e) h f = f h

pub err_if : {T E A : Type 0} (r : Result T E) → A → OnErr r A
err_if (Ok x) h = tt
err_if (Err e) h = h

pub some_of : {T : Type 0} (A : Type 0) (B : T → Type 0) (o : Option T) (x : T) → o ≡ Some x → MatchOption o A B → B x
some_of {T = T} A B o x is h = subst (λ (p : Option T). MatchOption p A B) is h

pub none_of : {T : Type 0} (A : Type 0) (B : T → Type 0) (o : Option T) → o ≡ None → MatchOption o A B → A
none_of {T = T} A B o is h = subst (λ (p : Option T). MatchOption p A B) is h

pub some_and : {T : Type 0} (P : T → Type 0) (o : Option T) (x : T) → o ≡ Some x → IsSomeAnd o P → P x
some_and P o x is h = subst (λ p. IsSomeAnd p P) is h

-- the round is listed after the lines before it
pub first_list : (a b : Option (List ℕ)) (kept : List ℕ) (n : ℕ) (bad : BadRound) (old list : MalformedLines)
    → ((before : List (List ℕ)) (quads : List QuadParts) → HaveStatements before quads → bad.before ≡ length before → IsListed before old)
    → ListsRound old list bad.round → IsBadRound a b kept n bad → MatchOption bad.next (IsToEnd (IsBadList n list) a b) (IsAhead (IsBadList n list) a b kept)
first_list a b kept n bad old list begun lists was = was.next list (lists was.before (begun was.before was.quads was.statements was.count))

-- ---- the end

pub part_of_bad : (a b : Option (List ℕ)) (n : ℕ) → IsBadSoFar a b n → IsReadInPart a b
part_of_bad a b n was = by was.rest
  where
    by : ((kept : List ℕ) × IsReadIn a b was.done kept × EndsLine was.done) ⊎ (Consumes a b was.done × IsAtEnd b) → IsReadInPart a b
    by (inl more) = record { taken = was.done ++ more.0; consumed = read_front a b was.done more.0 more.1 }
    by (inr last) = record { taken = was.done; consumed = last.0 }

pub bad_line_of_list : (a b : Option (List ℕ)) (n : ℕ) (list : MalformedLines) → IsToEnd (IsBadList n list) a b → IsBadLineFrom a b n
bad_line_of_list a b n list was = record { doc = was.doc; consumed = was.consumed; at_end = was.at_end; bad = was.read.bad }

pub listed_from : (a b : Option (List ℕ)) (n : ℕ) (list : MalformedLines) → IsToEnd (IsBadList n list) a b → IsListedFrom a b list
listed_from a b n list was = record { doc = was.doc; consumed = was.consumed; at_end = was.at_end; listed = was.read.listed }

pub part_of_line : (a b : Option (List ℕ)) (n : ℕ) → IsBadLineFrom a b n → IsReadInPart a b
part_of_line a b n was = record { taken = was.doc; consumed = was.consumed }

-- the reader failed while the malformed lines were listed
pub rest_failed : (fails : PoolFault → Type 0) (start left : Option (List ℕ)) (malformed : Option Listing) (fault : ReadFault)
    → IsReadInPart start left → IsCaused fails start (fault_of_read fault) → IsListedAfter fails start left malformed (fault_of_read fault)
rest_failed fails start left malformed Read part cause = record { bad_line = tt; listed = tt; stopped = tt; taken = part; cause = cause }
rest_failed fails start left malformed Memory part cause = record { bad_line = tt; listed = tt; stopped = tt; taken = part; cause = cause }

-- a fault after reads that did not fail
pub counts_then : (a b c : Option ℕ) (fault : ReaderFault) → Stays a b → CountsLoading {T = ℕ} b c (Err fault) → CountsLoading {T = ℕ} a c (Err fault)
counts_then a b c (BadLine n) h k = Stays-stays a b c h k
counts_then a b c WorkerRefused h k = Stays-stays a b c h k
counts_then a b c OutOfMemory h k = Stays-stays a b c h k
counts_then a b c ReadFailed h k = Stays-rises a b c h k
