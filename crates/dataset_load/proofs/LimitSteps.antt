-- The limits of a reader: how many bytes were taken, and what is too long.
use Rattle.std.proofs.Common.{◌≡◌, ℕ, ◌+◌, ◌*◌, ◌^◌, ◌≤◌, List, [], ◌++◌, false, length, Option, Some, None, IfSome, Result, Err, refl, sym, ap, ◌∙◌, subst, length-append, length-take, take, inl, inr, arith}
use Rattle.std.specs.Io.KnownBytes.{Consumes}
use Rattle.nquads_core.specs.Transfer.{IsReadInPart}
use Rattle.nquads_core.specs.declared.transfer.ReadFault.{ReadFault}
use Rattle.nquads_core.specs.declared.transfer.ReadFault.TheVariants.{Read as ReadFails, Memory as ReadMemory}
use Rattle.piece_pool.specs.declared.pool.PoolFault.{PoolFault}
use Rattle.dataset_load.specs.declared.reader.RoundBlocks.{RoundBlocks}
use Rattle.dataset_load.specs.declared.reader_fault.ReaderFault.{ReaderFault}
use Rattle.dataset_load.specs.declared.reader_fault.ReaderFault.TheVariants.{BadLine, WorkerRefused, Memory, Read}
use Rattle.dataset_load.specs.Limits.{least_bytes_of_a_round}
use Rattle.dataset_load.specs.Lines.{joined}
use Rattle.dataset_load.specs.ReadSoFar.{IsReadIn}
use Rattle.dataset_load.specs.Ahead.{IsNextRound, IsSpent, Spends, texts_of}
use Rattle.dataset_load.specs.Causes.{IsCaused, IsTooLong}
use Rattle.dataset_load.specs.FaultNames.{IsFailed, fault_of_read}

-- as many bytes as this number of rounds has at least, or those of one round fewer
abbrev pub IsLongFor : ℕ → Option (List ℕ) → Type 0
IsLongFor rounds left = IfSome left (λ xs. rounds * least_bytes_of_a_round ≤ length xs + least_bytes_of_a_round)

pub long_start : (a : Option (List ℕ)) → IsLongFor 0 a
long_start None = tt
long_start (Some xs) = omega arith

-- after 2^40 rounds
pub too_long : (rounds : ℕ) (a : Option (List ℕ)) → rounds ≡ 2 ^ 40 → IsLongFor rounds a → IsTooLong a
too_long rounds None e h = tt
too_long rounds (Some xs) e h = omega (arith, e, h)

pub long_more : (rounds : ℕ) (a b : Option (List ℕ)) (kept : List ℕ) → IsSpent (rounds * least_bytes_of_a_round) a b kept → IsLongFor (rounds + 1) a
long_more rounds None b kept h = tt
long_more rounds (Some xs) None kept h = absurd h
long_more rounds (Some xs) (Some ys) kept h = omega (arith, h)

pub spent_any : (n : ℕ) (a b : Option (List ℕ)) (kept : List ℕ) → IsSpent n a b kept → IsSpent 0 a b kept
spent_any n None b kept h = tt
spent_any n (Some xs) None kept h = absurd h
spent_any n (Some xs) (Some ys) kept h = omega (arith, h)

pub spent_in : (a b : Option (List ℕ)) (done kept : List ℕ) → IsReadIn a b done kept → IsSpent 0 a b kept
spent_in None b done kept h = tt
spent_in (Some xs) None done kept h = absurd h
spent_in (Some xs) (Some ys) done kept h =
    let e = ap length h ∙ length-append done (kept ++ ys) in
    let f = length-append kept ys in
    omega (arith, e, f)

-- what a round takes
pub spent_round : (a b c : Option (List ℕ)) (kept kept' : List ℕ) (round : RoundBlocks) → IsNextRound b c kept kept' round → round.is_last ≡ false
    → (n : ℕ) → IsSpent n a b kept → IsSpent (n + least_bytes_of_a_round) a c kept'
spent_round None b c kept kept' round filled is n h = tt
spent_round (Some xs) None c kept kept' round filled is n h = absurd h
spent_round (Some xs) (Some ys) None kept kept' round filled is n h = absurd (filled.more is).1
spent_round (Some xs) (Some ys) (Some zs) kept kept' round filled is n h =
    let bytes = joined (texts_of round) in
    let e = ap length (filled.more is).1 in
    let p = length-append kept ys in
    let q = length-append bytes (kept' ++ zs) in
    let r = length-append kept' zs in
    let l = filled.long is in
    omega (arith, e, p, q, r, l, h)

same_spent : (m n : ℕ) (a b : Option (List ℕ)) (kept : List ℕ) → m ≡ n → IsSpent n a b kept → IsSpent m a b kept
same_spent m n a b kept e h = subst (λ k. IsSpent k a b kept) (sym e) h

-- one more round, if there is one after it
pub spent_step : (k k' : ℕ) (a b c : Option (List ℕ)) (kept kept' : List ℕ) (round next : RoundBlocks) → k' ≡ k + 1
    → (round.is_last ≡ false → IsSpent (k * least_bytes_of_a_round) a b kept) → Spends b c kept kept' round next
    → (next.is_last ≡ false → IsSpent (k' * least_bytes_of_a_round) a c kept') × IsLongFor k' a
spent_step k k' a b c kept kept' round next e was spends = (
  λ is. same_spent (k' * least_bytes_of_a_round) (k * least_bytes_of_a_round + least_bytes_of_a_round) a c kept' (omega (arith, e)) (spends.1 is (k * least_bytes_of_a_round) a (was spends.0)),
  subst (λ n. IsLongFor n a) (sym e) (long_more k a b kept (was spends.0)),
)

-- one more read
pub spent_read : (n m : ℕ) (a b c : Option (List ℕ)) (bytes : List ℕ) → IsSpent n a b [] → Consumes b c bytes → m ≤ n + length bytes → IsSpent m a c []
spent_read n m None b c bytes h k low = tt
spent_read n m (Some xs) None c bytes h k low = absurd h
spent_read n m (Some xs) (Some ys) None bytes h k low = absurd k
spent_read n m (Some xs) (Some ys) (Some zs) bytes h k low =
    let e = ap length k ∙ length-append bytes zs in
    omega (arith, e, h, low)

pub spent_start : (a : Option (List ℕ)) → IsSpent 0 a a []
spent_start None = tt
spent_start (Some xs) = omega arith

-- after 2^64 - 1 reads
pub too_long_read : (n : ℕ) (a b : Option (List ℕ)) → n + 1 ≡ 2 ^ 64 → IsSpent n a b [] → IsTooLong a
too_long_read n None b e h = tt
too_long_read n (Some xs) None e h = absurd h
too_long_read n (Some xs) (Some ys) e h = omega (arith, e, h)

pub long_before : (a b : Option (List ℕ)) → IsReadInPart a b → IsTooLong b → IsTooLong a
long_before None b h k = tt
long_before (Some xs) None h k = absurd h.consumed
long_before (Some xs) (Some ys) h k =
    let e = ap length h.consumed ∙ length-append h.taken ys in
    omega (arith, e, k)

-- a cause that is no limit
pub caused : (fails : PoolFault → Type 0) (a : Option (List ℕ)) (fault : ReaderFault) → IsFailed fails fault → IsCaused fails a fault
caused fails a (BadLine n) h = tt
caused fails a WorkerRefused h = h
caused fails a Memory h = inl h
caused fails a Read h = tt

-- a read that failed by a limit alone
pub limit_caused : (fails : PoolFault → Type 0) (a : Option (List ℕ)) (fault : ReadFault) → (◌≡◌ {A = Result (Unit {0}) ReadFault} (Err fault) (Err ReadMemory) → IsTooLong a)
    → IsCaused fails a (fault_of_read fault)
limit_caused fails a ReadFails h = tt
limit_caused fails a ReadMemory h = inr (h refl)

-- a read that took at least one byte
pub one_more : (k n : ℕ) (buf : List ℕ) → n ≤ length buf → 1 ≤ n → k + 1 ≤ k + length (take n buf)
one_more k n buf low some = let e = length-take n buf in omega (arith, e, low, some)
