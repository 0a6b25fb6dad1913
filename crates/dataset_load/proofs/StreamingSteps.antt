-- Rounds of blocks that are read one after the other.
use Rattle.std.proofs.Common.{◌≡◌, ℕ, suc, List, [], ◌∷◌, ◌++◌, Bool, true, false, Option, Some, None, ◌^◌, ◌≤◌, length, IfErr, IfOk, IfSome, IsOk, IsSomeAnd, OnErr, OnOk, MatchOption, Result, Ok, Err, Vec, Global, refl, sym, ap, ◌∙◌, subst, true≢false, append_assoc, append-nil, inl, inr, ◌⊎◌, arith}
use Rattle.std.specs.Io.KnownBytes.{Consumes, IsAtEnd}
use Rattle.nquads_core.specs.Lines.{lines, EndsLine}
use Rattle.nquads_core.specs.Device.{Stays}
use Rattle.nquads_core.specs.Transfer.{CountsRead, IsReadInPart}
use Rattle.nquads_core.proofs.LineEnds.{lines_join}
use Rattle.nquads_core.proofs.PieceLaws.{lines_nil}
use Rattle.nquads_core.proofs.TransferSteps.{Consumes-more, in-part-more}
use Rattle.piece_cuts.specs.Laws.{EndsWithLineFeed}
use Rattle.dataset_load.specs.declared.numbered.Numbered.{Numbered}
use Rattle.nquads_core.specs.declared.transfer.ReadFault.{ReadFault}
use Rattle.nquads_core.specs.declared.transfer.ReadFault.TheVariants.{Read as ReadFails, Memory as ReadMemory}
use Rattle.nquads_core.specs.Pieces.{IsBadLine}
use Rattle.dataset_load.specs.declared.fault.LoadFault.{LoadFault}
use Rattle.dataset_load.specs.declared.fault.LoadFault.TheVariants.{BadLine, WorkerRefused, Memory}
use Rattle.dataset_load.specs.declared.reader_fault.ReaderFault.{ReaderFault}
use Rattle.dataset_load.specs.declared.reader_fault.ReaderFault.TheVariants.{BadLine as ReadBadLine, WorkerRefused as ReadRefused, Memory as ReadOutOfMemory, Read as ReadFailed}
use Rattle.dataset_load.specs.Fault.{IfBadLine}
use Rattle.piece_cuts.specs.Blocks.{BlocksView, GivesKnownBlock}
use Rattle.piece_cuts.specs.declared.blocks.BlockState.TheVariants.{Reading}
use Rattle.malformed_lines.specs.Malformed.{IsListed}
use Rattle.dataset_load.specs.Limits.{most_pieces_of_a_round}
use Rattle.dataset_load.specs.Lines.{AreWholeLines, EachEnds, all_lines, joined}
use Rattle.dataset_load.specs.declared.bad_round.BadRound.{BadRound}
use Rattle.dataset_load.specs.BadRounds.{IsBadList, IsBadRound, IsReady}
use Rattle.quad_filter.specs.declared.filter.QuadFilter.{QuadFilter}
use Rattle.dataset_load.specs.Loaded.{IsKeptLoaded}
use Rattle.dataset_load.specs.Store.{StoreView}
use Rattle.dataset_load.specs.Rounds.{HasRead}
use Rattle.dataset_load.specs.ReaderFault.{CountsLoading, IfBadLineRead}
use Rattle.dataset_load.specs.FaultNames.{fault_of_load, fault_of_read}
use Rattle.dataset_load.specs.Streaming.{IsBadLineFrom, IsKeptLoadedFrom}
use Rattle.dataset_load.specs.ReadSoFar.{IsBadSoFar, IsReadFrom, IsReadIn, IsReadUpTo, IsToEnd, IsUpTo, TakesRest, TakesRound}
use Rattle.dataset_load.specs.declared.reader.RoundBlocks.{RoundBlocks}
use Rattle.dataset_load.specs.Ahead.{IsAhead, IsNextRound, IsReadAhead, IsSpent, Spends, texts_of}
use Rattle.dataset_load.proofs.LimitSteps.{spent_any, spent_in, spent_round}
use Rattle.dataset_load.proofs.LineLaws.{bad_before, lines_of_pieces}
use Rattle.dataset_load.proofs.ReaderSteps.{nothing_after, read_front, read_start}

-- ---- the bytes of a round

pub round_start : (a : Option (List ℕ)) (kept : List ℕ) → TakesRound a a kept kept []
round_start None kept = tt
round_start (Some xs) kept = refl

pub round_step : (a b c : Option (List ℕ)) (kept0 kept kept' done done' : List ℕ) (size : ℕ) (block : Vec ℕ Global)
    → TakesRound a b kept0 kept done → GivesKnownBlock size kept b kept' c (Ok (Some block)) → done' ≡ done ++ block.items → TakesRound a c kept0 kept' done'
round_step None b c kept0 kept kept' done done' size block h k e = tt
round_step (Some xs) None c kept0 kept kept' done done' size block h k e = absurd h
round_step (Some xs) (Some ys) None kept0 kept kept' done done' size block h k e = absurd k
round_step (Some xs) (Some ys) (Some zs) kept0 kept kept' done done' size block h k e =
    h ∙ ap (λ bs. done ++ bs) k.1.joined ∙ sym (append_assoc done block.items (kept' ++ zs)) ∙ ap (λ bs. bs ++ (kept' ++ zs)) (sym e)

-- the document ended before another block
pub rest_none : (a b c : Option (List ℕ)) (kept0 kept kept' done : List ℕ) (size : ℕ)
    → TakesRound a b kept0 kept done → GivesKnownBlock size kept b kept' c (Ok None) → IsAtEnd c → TakesRest a c kept0 done
rest_none None b c kept0 kept kept' done size h k e = tt
rest_none (Some xs) None c kept0 kept kept' done size h k e = absurd h
rest_none (Some xs) (Some ys) None kept0 kept kept' done size h k e = absurd k
rest_none (Some xs) (Some ys) (Some zs) kept0 kept kept' done size h k e = h ∙ ap (λ bs. done ++ bs) k ∙ ap (λ bs. done ++ bs) (sym e)

-- the last block does not end with a line feed
pub rest_last : (a b c : Option (List ℕ)) (kept0 kept kept' done done' : List ℕ) (size : ℕ) (block : Vec ℕ Global)
    → TakesRound a b kept0 kept done → GivesKnownBlock size kept b kept' c (Ok (Some block)) → done' ≡ done ++ block.items
    → IsAtEnd c → ¬ EndsWithLineFeed block.items → TakesRest a c kept0 done'
rest_last None b c kept0 kept kept' done done' size block h k e end unended = tt
rest_last (Some xs) None c kept0 kept kept' done done' size block h k e end unended = absurd h
rest_last (Some xs) (Some ys) None kept0 kept kept' done done' size block h k e end unended = absurd k
rest_last (Some xs) (Some ys) (Some zs) kept0 kept kept' done done' size block h k e end unended =
    round_step (Some xs) (Some ys) (Some zs) kept0 kept kept' done done' size block h k e
    ∙ ap (λ bs. done' ++ bs) (nothing_after size (kept ++ ys) (kept' ++ zs) block k.1 unended) ∙ ap (λ bs. done' ++ bs) (sym end)

-- after what was read before
pub in_round : (a b c : Option (List ℕ)) (done kept kept' bytes : List ℕ) → IsReadIn a b done kept → TakesRound b c kept kept' bytes → IsReadIn a c (done ++ bytes) kept'
in_round None b c done kept kept' bytes h k = tt
in_round (Some xs) None c done kept kept' bytes h k = absurd h
in_round (Some xs) (Some ys) None done kept kept' bytes h k = absurd k
in_round (Some xs) (Some ys) (Some zs) done kept kept' bytes h k = h ∙ ap (λ bs. done ++ bs) k ∙ sym (append_assoc done bytes (kept' ++ zs))

pub in_rest : (a b c : Option (List ℕ)) (done kept bytes : List ℕ) → IsReadIn a b done kept → TakesRest b c kept bytes → Consumes a c (done ++ bytes)
in_rest None b c done kept bytes h k = tt
in_rest (Some xs) None c done kept bytes h k = absurd h
in_rest (Some xs) (Some ys) None done kept bytes h k = absurd k
in_rest (Some xs) (Some ys) (Some zs) done kept bytes h k = h ∙ ap (λ bs. done ++ bs) k ∙ sym (append_assoc done bytes zs)

pub part_of_round : (b c : Option (List ℕ)) (kept kept' bytes : List ℕ) → TakesRound b c kept kept' bytes
    → (start : Option (List ℕ)) (done : List ℕ) → IsReadIn start b done kept → IsReadInPart start c
part_of_round b c kept kept' bytes k start done h = record {
  taken = (done ++ bytes) ++ kept';
  consumed = read_front start c (done ++ bytes) kept' (in_round start b c done kept kept' bytes h k);
}

pub part_of_rest : (b c : Option (List ℕ)) (kept bytes : List ℕ) → TakesRest b c kept bytes
    → (start : Option (List ℕ)) (done : List ℕ) → IsReadIn start b done kept → IsReadInPart start c
part_of_rest b c kept bytes k start done h = record { taken = done ++ bytes; consumed = in_rest start b c done kept bytes h k }

pub part_then : (b c d : Option (List ℕ)) (kept kept' bytes : List ℕ) → TakesRound b c kept kept' bytes → IsReadInPart c d
    → (start : Option (List ℕ)) (done : List ℕ) → IsReadIn start b done kept → IsReadInPart start d
part_then b c d kept kept' bytes k part start done h =
    in-part-more start c d ((done ++ bytes) ++ kept') (read_front start c (done ++ bytes) kept' (in_round start b c done kept kept' bytes h k)) part

-- ---- the lines of a round

pub lines_after : (done : List ℕ) (ps : List (List ℕ)) → EndsLine done → AreWholeLines ps → lines (done ++ joined ps) ≡ lines done ++ all_lines ps
lines_after done ps whole ps_whole = lines_join done (joined ps) whole ∙ ap (λ (ls : List (List ℕ)). lines done ++ ls) (sym (lines_of_pieces ps ps_whole))

ends_both : (x p : List ℕ) → EndsLine x → EndsLine p → EndsLine (x ++ p)
ends_both x p h (inl none) = subst EndsLine (sym (ap (λ bs. x ++ bs) none ∙ append-nil x)) h
ends_both x p h (inr some) = inr (x ++ some.0, ap (λ bs. x ++ bs) some.1 ∙ sym (append_assoc x some.0 (10 ∷ [])))

pub ends_joined : (x : List ℕ) (ps : List (List ℕ)) → EndsLine x → EachEnds ps → EndsLine (x ++ joined ps)
ends_joined x [] h each = subst EndsLine (sym (append-nil x)) h
ends_joined x (p ∷ ps) h each =
    subst EndsLine (append_assoc x p (joined ps))
    (ends_joined (x ++ p) ps (ends_both x p h (each 0 (omega arith))) (λ i low. each (suc i) (omega arith)))

-- ---- a round that is added after the next one was read

-- the round that was read after the lines before it
pub ahead : (P : List (List ℕ) → Type 0) (a b c : Option (List ℕ)) (kept kept' : List ℕ) (round : RoundBlocks) → IsUpTo P a b kept → IsNextRound b c kept kept' round
    → IsAhead P a c kept' round
ahead P a b c kept kept' round was filled = record {
  done = was.done;
  whole = was.whole;
  read = was.read;
  few = filled.few;
  whole_lines = filled.whole_lines;
  more = λ is. ((filled.more is).0, in_round a b c was.done kept kept' (joined (texts_of round)) was.bytes (filled.more is).1);
  last = λ is. (in_rest a b c was.done kept (joined (texts_of round)) was.bytes (filled.last is).0, (filled.last is).1);
}

-- what is kept of a reader, before what it has left
abbrev with_kept : Option (List ℕ) → List ℕ → Option (List ℕ)
with_kept None kept = None
with_kept (Some xs) kept = Some (kept ++ xs)

in_kept : (b : Option (List ℕ)) (kept : List ℕ) → IsReadIn (with_kept b kept) b [] kept
in_kept None kept = tt
in_kept (Some xs) kept = refl

kept_in : (a b c : Option (List ℕ)) (done kept : List ℕ) (part : IsReadInPart (with_kept b kept) c) → IsReadIn a b done kept → IsReadIn a c done part.taken
kept_in None b c done kept part h = tt
kept_in (Some xs) None c done kept part h = absurd h
kept_in (Some xs) (Some ys) None done kept part h = absurd part.consumed
kept_in (Some xs) (Some ys) (Some zs) done kept part h = h ∙ ap (λ bs. done ++ bs) part.consumed

-- bytes were taken from the reader, and whatever was kept and left before is known in part
abbrev pub TakesPart : Option (List ℕ) → Option (List ℕ) → List ℕ → Type 0
TakesPart b c kept = (start : Option (List ℕ)) (done : List ℕ) → IsReadIn start b done kept → IsReadInPart start c

-- what the next round takes
pub part_of_next : (b c : Option (List ℕ)) (kept kept' : List ℕ) (round : RoundBlocks) → IsNextRound b c kept kept' round → TakesPart b c kept
part_of_next b c kept kept' round filled = by round.is_last refl
  where
    by : (is_last : Bool) → round.is_last ≡ is_last → TakesPart b c kept
    by false is = part_of_round b c kept kept' (joined (texts_of round)) (filled.more is).1
    by true is = part_of_rest b c kept (joined (texts_of round)) (filled.last is).0

-- Q holds of lines with those of a round after them, if P holds of these lines
abbrev pub AddsLines : (P Q : List (List ℕ) → Type 0) → RoundBlocks → Type 0
AddsLines P Q round = (before : List (List ℕ)) → P before → Q (before ++ all_lines (texts_of round))

-- this line of those before and of a round is the first that is malformed
abbrev pub HasBadLine : Numbered → RoundBlocks → ℕ → Type 0
HasBadLine so_far round n = AddsLines (HasRead so_far) (λ ls. IsBadLine ls n) round

module _ (P : List (List ℕ) → Type 0) (a b c : Option (List ℕ)) (kept : List ℕ) (round : RoundBlocks) (was : IsAhead P a b kept round) where
  abbrev done_now : List ℕ
  done_now = was.done ++ joined (texts_of round)

  pub lines_now : lines done_now ≡ lines was.done ++ all_lines (texts_of round)
  lines_now = lines_after was.done (texts_of round) was.whole was.whole_lines

  read_now : (Q : List (List ℕ) → Type 0) → AddsLines P Q round → Q (lines done_now)
  read_now Q read = subst Q (sym lines_now) (read (lines was.done) was.read)

  up_to_now : (Q : List (List ℕ) → Type 0) → round.is_last ≡ false → AddsLines P Q round → IsUpTo Q a b kept
  up_to_now Q is read = record {
    done = done_now;
    bytes = (was.more is).1;
    whole = ends_joined was.done (texts_of round) was.whole (was.more is).0;
    read = read_now Q read;
  }

  pub at_last : c ≡ b → round.is_last ≡ true → Consumes a c done_now × IsAtEnd c
  at_last same is = (
    subst (λ (x : Option (List ℕ)). Consumes a x done_now) (sym same) (was.last is).0,
    subst (λ (x : Option (List ℕ)). IsAtEnd x) (sym same) (was.last is).1,
  )

  pub read_round : (Q : List (List ℕ) → Type 0) (kept' : List ℕ) (next : Option RoundBlocks) → (round.is_last ≡ true → (next ≡ None) × (c ≡ b))
      → (round.is_last ≡ false → IsSomeAnd next (IsNextRound b c kept kept')) → AddsLines P Q round
      → MatchOption next (IsToEnd Q a c) (IsAhead Q a c kept')
  read_round Q kept' next ended filled read = by round.is_last refl
    where
      some : (r : Option RoundBlocks) → round.is_last ≡ false → IsSomeAnd r (IsNextRound b c kept kept') → MatchOption r (IsToEnd Q a c) (IsAhead Q a c kept')
      some None is f = absurd f
      some (Some r) is f = ahead Q a b c kept kept' r (up_to_now Q is read) f

      by : (is_last : Bool) → round.is_last ≡ is_last → MatchOption next (IsToEnd Q a c) (IsAhead Q a c kept')
      by false is = some next is (filled is)
      by true is =
          let e = ended is in
          let last = at_last e.1 is in
          subst (λ (r : Option RoundBlocks). MatchOption r (IsToEnd Q a c) (IsAhead Q a c kept')) (sym e.0)
          record { doc = done_now; consumed = last.0; at_end = last.1; read = read_now Q read }

  pub part_ahead : (round.is_last ≡ true → c ≡ b) → (round.is_last ≡ false → TakesPart b c kept) → IsReadInPart a c
  part_ahead ended taken = by round.is_last refl
    where
      by : (is_last : Bool) → round.is_last ≡ is_last → IsReadInPart a c
      by false is = taken is a done_now (was.more is).1
      by true is = record { taken = done_now; consumed = (at_last (ended is) is).0 }

-- a line of those before and of a round is the first that is malformed
pub bad_ahead : (P : List (List ℕ) → Type 0) (a b c : Option (List ℕ)) (kept : List ℕ) (round : RoundBlocks) (was : IsAhead P a b kept round) (n : ℕ)
    → (round.is_last ≡ true → c ≡ b) → (round.is_last ≡ false → TakesPart b c kept) → AddsLines P (λ ls. IsBadLine ls n) round → IsBadSoFar a c n
bad_ahead P a b c kept round was n ended taken bad = record {
  done = done_now P a b c kept round was;
  bad = read_now P a b c kept round was (λ ls. IsBadLine ls n) bad;
  rest = by round.is_last refl;
}
  where
    by : (is_last : Bool) → round.is_last ≡ is_last
        → ((kept' : List ℕ) × IsReadIn a c (done_now P a b c kept round was) kept' × EndsLine (done_now P a b c kept round was))
        ⊎ (Consumes a c (done_now P a b c kept round was) × IsAtEnd c)
    by false is =
        let part = taken is (with_kept b kept) [] (in_kept b kept) in
        inl (part.taken, kept_in a b c (was.done ++ joined (texts_of round)) kept part (was.more is).1, ends_joined was.done (texts_of round) was.whole (was.more is).0)
    by true is = inr (at_last P a b c kept round was (ended is) is)

-- what was read of the reader, up to the end of a round and what is kept after it
pub part_so_far : (P : List (List ℕ) → Type 0) (a b : Option (List ℕ)) (kept : List ℕ) (round : RoundBlocks) → IsAhead P a b kept round → IsReadInPart a b
part_so_far P a b kept round was = part_ahead P a b b kept round was (λ _. refl) (λ is start done h. record { taken = done ++ kept; consumed = read_front start b done kept h })

-- what was read after a round, if the read succeeded
same_Ok : {T E : Type 0} (x y : T) → (a b : Result T E) → a ≡ Ok x → a ≡ Ok y → b ≡ a → x ≡ y
same_Ok x y a b e f g = cc

after_last : (b c : Option (List ℕ)) (round : RoundBlocks) (next : Result (Option RoundBlocks) ReadFault) (n : Option RoundBlocks)
    → (round.is_last ≡ true → (next ≡ Ok None) × (c ≡ b)) → next ≡ Ok n → round.is_last ≡ true → (n ≡ None) × (c ≡ b)
after_last b c round next n ended is last = let e = ended last in (same_Ok n None next next is e.0 refl, e.1)

after_more : (b c : Option (List ℕ)) (kept kept' : List ℕ) (round : RoundBlocks) (next : Result (Option RoundBlocks) ReadFault) (n : Option RoundBlocks)
    → (round.is_last ≡ false → IfOk next (λ n. IsSomeAnd n (IsNextRound b c kept kept'))) → next ≡ Ok n → round.is_last ≡ false → IsSomeAnd n (IsNextRound b c kept kept')
after_more b c kept kept' round next n filled is more =
    subst (λ (r : Result (Option RoundBlocks) ReadFault). IfOk r (λ n. IsSomeAnd n (IsNextRound b c kept kept'))) is (filled more)

-- P of the result of one fallible step, if another one succeeds with it
pub taken_ok : {T E F : Type 0} (r : Result T F) (next : Result T E) (P : T → Type 0) → IfOk r (λ x. next ≡ Ok x) → IfOk next P → IfOk r P
taken_ok (Ok x) next P is h = subst (λ n. IfOk n P) is h
taken_ok (Err e) next P is h = tt

pub both_ok : {T U E F : Type 0} (r : Result T F) (added : Result U E) (P : Type 0) → OnOk r (IsOk added) → OnOk added P → OnOk r P
both_ok (Ok x) (Ok y) P is h = h
both_ok (Ok x) (Err e) P is h = absurd (true≢false (sym is))
both_ok (Err e) added P is h = tt

-- a round was added while the next one was read
pub round_done : {T E F : Type 0} (P Q : List (List ℕ) → Type 0) (b c : Option (List ℕ)) (kept kept' : List ℕ) (round : RoundBlocks) (added : Result T F)
    (next : Result (Option RoundBlocks) ReadFault) (r : Result (Option RoundBlocks) E)
    → (round.is_last ≡ true → (next ≡ Ok None) × (c ≡ b)) → (round.is_last ≡ false → IfOk next (λ n. IsSomeAnd n (IsNextRound b c kept kept')))
    → OnOk added (AddsLines P Q round) → IfOk r (λ n. next ≡ Ok n) → OnOk r (IsOk added)
    → IfOk r (λ n. (start : Option (List ℕ)) → IsAhead P start b kept round → MatchOption n (IsToEnd Q start c) (IsAhead Q start c kept'))
round_done P Q b c kept kept' round added next (Err fault) ended filled read is both = tt
round_done P Q b c kept kept' round (Err fault) next (Ok n) ended filled read is both = absurd (true≢false (sym both))
round_done P Q b c kept kept' round (Ok x) next (Ok n) ended filled read is both = λ start was.
    read_round P start b c kept round was Q kept' n (after_last b c round next n ended is) (after_more b c kept kept' round next n filled is) read

pub part_done : (b c : Option (List ℕ)) (kept : List ℕ) (so_far : Numbered) (round : RoundBlocks) (r : Result (Option RoundBlocks) ReaderFault)
    → (round.is_last ≡ true → c ≡ b) → (round.is_last ≡ false → TakesPart b c kept)
    → OnErr r ((start : Option (List ℕ)) → IsReadAhead start b kept so_far round → IsReadInPart start c)
part_done b c kept so_far round (Ok n) ended taken = tt
part_done b c kept so_far round (Err fault) ended taken = λ start was. part_ahead (HasRead so_far) start b c kept round was ended taken

-- the next round is not too long
pub few_after : (b c : Option (List ℕ)) (kept kept' : List ℕ) (round : RoundBlocks) (next : Result (Option RoundBlocks) ReadFault) (n : Option RoundBlocks)
    → (round.is_last ≡ true → (next ≡ Ok None) × (c ≡ b)) → (round.is_last ≡ false → IfOk next (λ n. IsSomeAnd n (IsNextRound b c kept kept'))) → next ≡ Ok n
    → IfSome n (λ r. length r.blocks.items ≤ most_pieces_of_a_round)
few_after b c kept kept' round next n ended filled is = by round.is_last refl
  where
    some : (m : Option RoundBlocks) → IsSomeAnd m (IsNextRound b c kept kept') → IfSome m (λ r. length r.blocks.items ≤ most_pieces_of_a_round)
    some None h = tt
    some (Some r) h = h.few

    by : (is_last : Bool) → round.is_last ≡ is_last → IfSome n (λ r. length r.blocks.items ≤ most_pieces_of_a_round)
    by false more = some n (after_more b c kept kept' round next n filled is more)
    by true last = rw (after_last b c round next n ended is last).0 tt

-- what the next round takes, if there is one
pub spent_after : (b c : Option (List ℕ)) (kept kept' : List ℕ) (round : RoundBlocks) (next : Result (Option RoundBlocks) ReadFault) (n : Option RoundBlocks)
    → (round.is_last ≡ true → (next ≡ Ok None) × (c ≡ b)) → (round.is_last ≡ false → IfOk next (λ n. IsSomeAnd n (IsNextRound b c kept kept'))) → next ≡ Ok n
    → IfSome n (Spends b c kept kept' round)
spent_after b c kept kept' round next n ended filled is = by round.is_last refl
  where
    some : (m : Option RoundBlocks) → round.is_last ≡ false → IsSomeAnd m (IsNextRound b c kept kept') → IfSome m (Spends b c kept kept' round)
    some None more h = tt
    some (Some r) more h = (more, λ is n start was. spent_round start b c kept kept' r h is n was)

    by : (is_last : Bool) → round.is_last ≡ is_last → IfSome n (Spends b c kept kept' round)
    by false more = some n more (after_more b c kept kept' round next n filled is more)
    by true last = rw (after_last b c round next n ended is last).0 tt

pub spent_next : {E : Type 0} (b c : Option (List ℕ)) (kept kept' : List ℕ) (round : RoundBlocks) (next : Result (Option RoundBlocks) ReadFault) (r : Result (Option RoundBlocks) E)
    → (round.is_last ≡ true → (next ≡ Ok None) × (c ≡ b)) → (round.is_last ≡ false → IfOk next (λ n. IsSomeAnd n (IsNextRound b c kept kept')))
    → IfOk r (λ n. next ≡ Ok n) → IfOk r (λ n. IfSome n (Spends b c kept kept' round))
spent_next b c kept kept' round next (Err e) ended filled is = tt
spent_next b c kept kept' round next (Ok n) ended filled is = spent_after b c kept kept' round next n ended filled is

-- ---- a round with the first malformed line

-- the same lines are before the round
these_ahead : (P : List (List ℕ) → Type 0) (a b : Option (List ℕ)) (kept : List ℕ) (round : RoundBlocks) (was : IsAhead P a b kept round)
    → IsAhead (λ ls. ls ≡ lines was.done) a b kept round
these_ahead P a b kept round was =
    record { done = was.done; whole = was.whole; read = refl; few = was.few; whole_lines = was.whole_lines; more = was.more; last = was.last }

module _ (b c : Option (List ℕ)) (kept kept' : List ℕ) (so_far : Numbered) (round : RoundBlocks) (next : Result (Option RoundBlocks) ReadFault)
    (ended : round.is_last ≡ true → (next ≡ Ok None) × (c ≡ b)) (filled : round.is_last ≡ false → IfOk next (λ n. IsSomeAnd n (IsNextRound b c kept kept')))
    (taken : round.is_last ≡ false → TakesPart b c kept) where
  -- what is kept and left after the next round is a part of what there was
  within : (start : Option (List ℕ)) → IsReadAhead start b kept so_far round → (n : Option RoundBlocks) → IfSome n (Spends b c kept kept' round)
      → IfSome n (λ r. r.is_last ≡ false → IsSpent 0 start c kept')
  within start was None h = tt
  within start was (Some r) h = λ is. spent_any _ start c kept' (h.1 is 0 start (spent_in start b (was.done ++ joined (texts_of round)) kept (was.more h.0).1))

  bad_round : (n : ℕ) (bad : BadRound) → bad.before ≡ so_far.lines → bad.round ≡ round → next ≡ Ok bad.next → HasBadLine so_far round n
      → (start : Option (List ℕ)) → IsReadAhead start b kept so_far round → IsBadRound start c kept' n bad
  bad_round n bad before_is round_is next_is has_bad start was =
      let is_bad = has_bad (lines was.done) was.read in
      record {
        so_far = bad_ahead (HasRead so_far) start b c kept round was n (λ last. (ended last).1) taken has_bad;
        before = lines was.done;
        quads = was.read.numbered.all;
        statements = was.read.numbered.statements;
        count = before_is ∙ was.read.count;
        within = within start was bad.next (spent_after b c kept kept' round next bad.next ended filled next_is);
        next = λ list listed.
            let now = subst (λ (r : RoundBlocks). IsListed (lines was.done ++ all_lines (texts_of r)) list) round_is listed in
            read_round (λ ls. ls ≡ lines was.done) start b c kept round (these_ahead (HasRead so_far) start b kept round was) (IsBadList n list) kept' bad.next
            (after_last b c round next bad.next ended next_is) (after_more b c kept kept' round next bad.next filled next_is)
            (λ before e. subst (λ (ls : List (List ℕ)). IsBadList n list (ls ++ all_lines (texts_of round))) (sym e) (record { bad = is_bad; listed = now }));
      }

  ready : (blocks : BlocksView) (bad : BadRound) → so_far.lines ≤ 2 ^ 124 → length round.blocks.items ≤ most_pieces_of_a_round
      → IfOk next (λ n. IfSome n (λ r. r.is_last ≡ false → blocks.state ≡ Reading))
      → bad.before ≡ so_far.lines → bad.round ≡ round → next ≡ Ok bad.next → IsReady blocks bad
  ready blocks bad countable few reading before_is round_is next_is = record {
    countable = omega (arith, before_is, countable);
    few = subst (λ (r : RoundBlocks). length r.blocks.items ≤ most_pieces_of_a_round) (sym round_is) few;
    few_next = few_after b c kept kept' round next bad.next ended filled next_is;
    reading = subst (λ (r : Result (Option RoundBlocks) ReadFault). IfOk r (λ n. IfSome n (λ r. r.is_last ≡ false → blocks.state ≡ Reading))) next_is reading;
  }

  -- what is kept of a round, if it has a malformed line
  pub bad_done : {T : Type 0} (blocks : BlocksView) (added : Result T LoadFault) (r : Result (Option RoundBlocks) ReaderFault) (held : Option BadRound)
      → so_far.lines ≤ 2 ^ 124 → length round.blocks.items ≤ most_pieces_of_a_round
      → IfOk next (λ n. IfSome n (λ r. r.is_last ≡ false → blocks.state ≡ Reading))
      → IfErr added (IfBadLine (HasBadLine so_far round))
      → IfErr r (IfBadLineRead (λ n. added ≡ Err (BadLine n)))
      → IfErr r (IfBadLineRead (λ n. IsSomeAnd held (λ bad. (bad.before ≡ so_far.lines) × (bad.round ≡ round) × (next ≡ Ok bad.next))))
      → IfErr r (IfBadLineRead (λ n. IsSomeAnd held (λ bad. IsReady blocks bad × ((start : Option (List ℕ)) → IsReadAhead start b kept so_far round → IsBadRound start c kept' n bad))))
  bad_done blocks added (Ok n) held countable few reading bad is has = tt
  bad_done blocks added (Err ReadRefused) held countable few reading bad is has = tt
  bad_done blocks added (Err ReadOutOfMemory) held countable few reading bad is has = tt
  bad_done blocks added (Err ReadFailed) held countable few reading bad is has = tt
  bad_done blocks added (Err (ReadBadLine n)) None countable few reading bad is has = absurd has
  bad_done {T = T} blocks added (Err (ReadBadLine n)) (Some x) countable few reading bad is has = (
    ready blocks x countable few reading has.0 has.1 has.2,
    bad_round n x has.0 has.1 has.2 (subst (λ (r : Result T LoadFault). IfErr r (IfBadLine (HasBadLine so_far round))) is bad),
  )

-- ---- the start and the end of the reader

pub up_to_start : (a : Option (List ℕ)) (kept : List ℕ) (so_far : Numbered) → kept ≡ [] → HasRead so_far [] → IsReadUpTo a a kept so_far
up_to_start a kept so_far none read = record {
  done = [];
  bytes = read_start a kept none;
  whole = inl refl;
  read = subst (λ (ls : List (List ℕ)). HasRead so_far ls) (sym lines_nil) read;
}

pub part_both : (a b c : Option (List ℕ)) → IsReadInPart a b → IsReadInPart b c → IsReadInPart a c
part_both a b c h k = in-part-more a b c h.taken h.consumed k

pub part_more : (a b c : Option (List ℕ)) (xs : List ℕ) → IsReadInPart a b → Consumes b c xs → IsReadInPart a c
part_more a b c xs h k = record { taken = h.taken ++ xs; consumed = Consumes-more a b c h.taken xs h.consumed k }

known_more : (a b c : Option (List ℕ)) (done kept rest : List ℕ) → IsReadIn a b done kept → Consumes b c rest → Consumes a c (done ++ (kept ++ rest))
known_more None b c done kept rest h k = tt
known_more (Some xs) None c done kept rest h k = absurd h
known_more (Some xs) (Some ys) None done kept rest h k = absurd k
known_more (Some xs) (Some ys) (Some zs) done kept rest h k =
    h ∙ ap (λ bs. done ++ (kept ++ bs)) k ∙ ap (λ bs. done ++ bs) (sym (append_assoc kept rest zs)) ∙ sym (append_assoc done (kept ++ rest) zs)

known_end : (a b c : Option (List ℕ)) (done rest : List ℕ) → Consumes a b done → IsAtEnd b → Consumes b c rest → IsAtEnd c → Consumes a c done
known_end None b c done rest h e k f = tt
known_end (Some xs) None c done rest h e k f = absurd h
known_end (Some xs) (Some ys) None done rest h e k f = absurd k
known_end (Some xs) (Some ys) (Some zs) done rest h e k f = h ∙ ap (λ bs. done ++ bs) (e ∙ sym f)

-- after a malformed line the reader was read to its end
pub bad_from : (a b c : Option (List ℕ)) (n : ℕ) → IsBadSoFar a b n → IsReadInPart b c → IsAtEnd c → IsBadLineFrom a c n
bad_from a b c n was rest end = by was.rest
  where
    by : ((kept : List ℕ) × IsReadIn a b was.done kept × EndsLine was.done) ⊎ (Consumes a b was.done × IsAtEnd b) → IsBadLineFrom a c n
    by (inl more) = record {
      doc = was.done ++ (more.0 ++ rest.taken);
      consumed = known_more a b c was.done more.0 rest.taken more.1 rest.consumed;
      at_end = end;
      bad = subst (λ (ls : List (List ℕ)). IsBadLine ls n) (sym (lines_join was.done (more.0 ++ rest.taken) more.2))
          (was.bad.0, bad_before (lines was.done) (lines (more.0 ++ rest.taken)) was.bad.0 was.bad.1, was.bad.2);
    }
    by (inr last) = record {
      doc = was.done;
      consumed = known_end a b c was.done rest.taken last.0 last.1 rest.consumed end;
      at_end = end;
      bad = was.bad;
    }

pub loaded_from : (filter : QuadFilter) (a b : Option (List ℕ)) (so_far : Numbered) (store : StoreView) → so_far.filter.now ≡ filter → IsReadFrom a b so_far
    → ((ls : List (List ℕ)) → HasRead so_far ls → IsKeptLoaded so_far.filter.now ls store) → IsKeptLoadedFrom filter a b store
loaded_from filter a b so_far store same was load = record {
  doc = was.doc;
  consumed = was.consumed;
  at_end = was.at_end;
  loaded = subst (λ (f : QuadFilter). IsKeptLoaded f (lines was.doc) store) same (load (lines was.doc) was.read);
}

-- ---- the count of failures

pub load_counts : (a b : Option ℕ) (fault : LoadFault) → Stays a b → CountsLoading {T = ℕ} a b (Err (fault_of_load fault))
load_counts a b (BadLine n) h = h
load_counts a b WorkerRefused h = h
load_counts a b Memory h = h

pub read_counts : (a b : Option ℕ) (fault : ReadFault) → CountsRead {T = ℕ} a b (Err fault) → CountsLoading {T = ℕ} a b (Err (fault_of_read fault))
read_counts a b ReadFails h = h
read_counts a b ReadMemory h = h
