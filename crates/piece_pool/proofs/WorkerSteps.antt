-- What one more draw, output or fault changes in the work so far.
use Rattle.std.proofs.Common.{Some, ◌≡◌, ℕ, ◌+◌, ◌<◌, ◌≤◌, List, [], ◌∷◌, ◌++◌, Contains, true, true≢false, arith, ap, refl, sym, ◌∙◌, subst, ⊎_elim}
use Rattle.std.proofs.lemmas.List.{map-append}
use Rattle.std.proofs.lemmas.List.Sums.{sum_by-append}
use Rattle.std.proofs.lemmas.List.Elements.{All-push, Contains-push, Contains-push_cases, Contains-append_left, Contains-append_right, Contains-append_cases}
use Rattle.piece_board.specs.Counts.{times}
use Rattle.piece_board.specs.Board.{BoardView, IsPassOf}
use Rattle.piece_board.specs.declared.history.History.{History}
use Rattle.piece_board.specs.Pass.{PassView, after_drawing, after_looking, after_reporting}
use Rattle.piece_pool.specs.Worked.{numbers_of, done_of, IsNoMoreThan, CoversUpTo, IsWorkOf, IsWorked, IsUnderway, IsDrawn}
use Rattle.piece_pool.specs.declared.worker.Worked.{Worked}

pub times-append : (x : ℕ) (xs ys : List ℕ) → times x (xs ++ ys) ≡ times x xs + times x ys
times-append x xs ys = sum_by-append _ xs ys

pub IsNoMoreThan-draw : (xs ys : List ℕ) (i : ℕ) → IsNoMoreThan xs ys → IsNoMoreThan xs (ys ++ i ∷ [])
IsNoMoreThan-draw xs ys i h x = omega (arith, h x, times-append x ys (i ∷ []))

IsNoMoreThan-both : (xs ys : List ℕ) (i : ℕ) → IsNoMoreThan xs ys → IsNoMoreThan (xs ++ i ∷ []) (ys ++ i ∷ [])
IsNoMoreThan-both xs ys i h x = omega (arith, h x, times-append x xs (i ∷ []), times-append x ys (i ∷ []))

-- an output for the number drawn last
IsNoMoreThan-answer : {Out Fault : Type 0} (outs : List (ℕ × Out)) (failed : List (ℕ × Fault)) (draws : List ℕ) (i : ℕ) (out : Out) → IsNoMoreThan (done_of outs failed ++ i ∷ []) draws → IsNoMoreThan (done_of (outs ++ (i, out) ∷ []) failed) draws
IsNoMoreThan-answer outs failed draws i out h x =
    rw map-append (omega (arith, h x, times-append x (done_of outs failed) (i ∷ []), times-append x (numbers_of outs) (numbers_of failed), times-append x (numbers_of outs ++ i ∷ []) (numbers_of failed), times-append x (numbers_of outs) (i ∷ [])))

-- a fault for the number drawn last
IsNoMoreThan-fault : {Out Fault : Type 0} (outs : List (ℕ × Out)) (failed : List (ℕ × Fault)) (draws : List ℕ) (i : ℕ) (fault : Fault) → IsNoMoreThan (done_of outs failed ++ i ∷ []) draws → IsNoMoreThan (done_of outs (failed ++ (i, fault) ∷ [])) draws
IsNoMoreThan-fault outs failed draws i fault h x =
    rw map-append (omega (arith, h x, times-append x (done_of outs failed) (i ∷ []), times-append x (numbers_of outs) (numbers_of failed), times-append x (numbers_of outs) (numbers_of failed ++ i ∷ []), times-append x (numbers_of failed) (i ∷ [])))

-- one more draw, which is in the list
CoversUpTo-draw : (seen seen' i : ℕ) (draws done : List ℕ) → CoversUpTo seen draws done → seen' ≤ seen → CoversUpTo seen' (draws ++ i ∷ []) (done ++ i ∷ [])
CoversUpTo-draw seen seen' i draws done h falls j in' low =
    ⊎_elim (λ was. Contains-append_left done (i ∷ []) j (h j was (omega arith))) (λ is. subst (Contains (done ++ i ∷ [])) is (Contains-push done i)) (Contains-push_cases draws i j in')

-- a number above what the pass has seen is not needed
CoversUpTo-skipped : (seen i : ℕ) (draws done : List ℕ) → CoversUpTo seen draws (done ++ i ∷ []) → seen < i → CoversUpTo seen draws done
CoversUpTo-skipped seen i draws done h above j in' low =
    ⊎_elim (λ was. was) (λ is. absurd (omega (arith, is))) (Contains-push_cases done i j (h j in' low))

pub Contains-output_old : {Out Fault : Type 0} (outs : List (ℕ × Out)) (failed : List (ℕ × Fault)) (i : ℕ) (out : Out) (j : ℕ) → Contains (done_of outs failed) j → Contains (done_of (outs ++ (i, out) ∷ []) failed) j
Contains-output_old outs failed i out j h =
    rw map-append (⊎_elim (λ a. Contains-append_left _ _ j (Contains-append_left _ _ j a)) (λ b. Contains-append_right (numbers_of outs ++ i ∷ []) _ j b) (Contains-append_cases (numbers_of outs) (numbers_of failed) j h))

pub Contains-output_new : {Out Fault : Type 0} (outs : List (ℕ × Out)) (failed : List (ℕ × Fault)) (i : ℕ) (out : Out) → Contains (done_of (outs ++ (i, out) ∷ []) failed) i
Contains-output_new outs failed i out =
    rw map-append (Contains-append_left _ _ i (Contains-push (numbers_of outs) i))

pub Contains-fault_old : {Out Fault : Type 0} (outs : List (ℕ × Out)) (failed : List (ℕ × Fault)) (i : ℕ) (fault : Fault) (j : ℕ) → Contains (done_of outs failed) j → Contains (done_of outs (failed ++ (i, fault) ∷ [])) j
Contains-fault_old outs failed i fault j h =
    rw map-append (⊎_elim (λ a. Contains-append_left _ _ j a) (λ b. Contains-append_right (numbers_of outs) _ j (Contains-append_left _ _ j b)) (Contains-append_cases (numbers_of outs) (numbers_of failed) j h))

pub Contains-fault_new : {Out Fault : Type 0} (outs : List (ℕ × Out)) (failed : List (ℕ × Fault)) (i : ℕ) (fault : Fault) → Contains (done_of outs (failed ++ (i, fault) ∷ [])) i
Contains-fault_new outs failed i fault =
    rw map-append (Contains-append_right (numbers_of outs) _ i (Contains-push (numbers_of failed) i))

module _ {Out Fault : Type 0} (answers : ℕ → Out → Type 0) (faults : ℕ → Fault → Type 0) (draws reports : List ℕ) (outs : List (ℕ × Out)) (failed : List (ℕ × Fault)) (work : IsWorkOf answers faults draws reports outs failed) (i : ℕ) where
  IsWorkOf-draw : IsWorkOf answers faults (draws ++ i ∷ []) reports outs failed
  IsWorkOf-draw = record {
    returned = work.returned;
    faulted = work.faulted;
    drawn = IsNoMoreThan-draw (done_of outs failed) draws i work.drawn;
    reported = work.reported;
  }

-- a worker that stopped
IsWorked-stopped : {Out Fault : Type 0} (answers : ℕ → Out → Type 0) (faults : ℕ → Fault → Type 0) (board : BoardView) (w : Worked Out Fault) → w.stopped ≡ true → IsPassOf board w.pass → IsWorkOf answers faults w.pass.history.draws w.pass.history.reports w.outs.items w.faults.items → IsWorked answers faults board w
IsWorked-stopped answers faults board w stopped pass work = record {
  of_board = pass;
  work = work;
  finished = λ e. absurd (true≢false (sym stopped ∙ e));
  covers = λ e. absurd (true≢false (sym stopped ∙ e));
}

-- A worker with these outputs and faults, which drew piece i.
module _ {Out Fault : Type 0} (answers : ℕ → Out → Type 0) (faults : ℕ → Fault → Type 0) (board : BoardView) (i : ℕ) (outs : List (ℕ × Out)) (failed : List (ℕ × Fault)) where
  abbrev done : List ℕ
  done = done_of outs failed

  -- the draw, and a look at the least reported number
  pub drawn_piece : (p0 p1 p2 : PassView) (least : ℕ) → p1 ≡ after_drawing p0 (Some i) → p2 ≡ after_looking p1 least → least ≤ p1.history.seen → IsPassOf board p2
      → IsUnderway answers faults board p0 outs failed → IsDrawn answers faults board i p2 outs failed
  drawn_piece p0 p1 p2 least drew looked falls of_board was =
      let draws = p0.history.draws in
      let low : least ≤ p0.history.seen = subst (λ (p : PassView). least ≤ p.history.seen) drew falls in
      subst (λ (p : PassView). IsPassOf board p → IsDrawn answers faults board i p outs failed) (sym (looked ∙ ap (λ (p : PassView). after_looking p least) drew)) (λ of. record {
        of_board = of;
        unfinished = was.unfinished;
        last = refl;
        work = IsWorkOf-draw answers faults draws p0.history.reports outs failed was.work i;
        once = IsNoMoreThan-both done draws i was.work.drawn;
        covers = CoversUpTo-draw p0.history.seen least i draws done was.covers low;
      }) of_board

  module _ (p : PassView) (was : IsDrawn answers faults board i p outs failed) where
    -- the piece is done if the other pieces still are
    now_done : (done' : List ℕ) → ((j : ℕ) → Contains done j → Contains done' j) → Contains done' i → CoversUpTo p.history.seen p.history.draws done'
    now_done done' grows added j here below = ⊎_elim (grows j) (λ is. subst (Contains done') is added) (Contains-push_cases done i j (was.covers j here below))

    -- the piece is above what the pass has seen
    pub skipped_piece : (q : PassView) → (q.board ≡ p.board) × (q.history ≡ p.history) → p.history.seen < i → IsUnderway answers faults board q outs failed
    skipped_piece q same above = record {
      of_board = (same.0 ∙ was.of_board.0, ap (λ (h : History). h.pieces) same.1 ∙ was.of_board.1);
      unfinished = ap (λ (h : History). h.finished) same.1 ∙ was.unfinished;
      work = subst (λ (h : History). IsWorkOf answers faults h.draws h.reports outs failed) (sym same.1) was.work;
      covers = subst (λ (h : History). CoversUpTo h.seen h.draws done) (sym same.1) (CoversUpTo-skipped p.history.seen i p.history.draws done was.covers above);
    }

    pub output_added : (out : Out) (outs' : List (ℕ × Out)) → outs' ≡ outs ++ (i, out) ∷ [] → answers i out → IsUnderway answers faults board p outs' failed
    output_added out outs' added is =
        subst (λ (xs : List (ℕ × Out)). IsUnderway answers faults board p xs failed) (sym added) (record {
          of_board = was.of_board;
          unfinished = was.unfinished;
          work = record {
            returned = All-push (λ x. answers x.0 x.1) outs (i, out) was.work.returned is;
            faulted = was.work.faulted;
            drawn = λ x. IsNoMoreThan-answer outs failed p.history.draws i out was.once x;
            reported = was.work.reported;
          };
          covers = now_done (done_of (outs ++ (i, out) ∷ []) failed) (Contains-output_old outs failed i out) (Contains-output_new outs failed i out);
        })

    pub fault_added : (fault : Fault) (failed' : List (ℕ × Fault)) (q : PassView) → failed' ≡ failed ++ (i, fault) ∷ [] → q ≡ after_reporting p i → faults i fault → IsUnderway answers faults board q outs failed'
    fault_added fault failed' q added reported is =
        subst (λ (r : PassView). IsUnderway answers faults board r outs failed') (sym reported)
        (subst (λ (xs : List (ℕ × Fault)). IsUnderway answers faults board (after_reporting p i) outs xs) (sym added) (record {
          of_board = was.of_board;
          unfinished = was.unfinished;
          work = record {
            returned = was.work.returned;
            faulted = All-push (λ x. faults x.0 x.1) failed (i, fault) was.work.faulted is;
            drawn = λ x. IsNoMoreThan-fault outs failed p.history.draws i fault was.once x;
            reported = rw map-append (ap (λ xs. xs ++ i ∷ []) was.work.reported);
          };
          covers = now_done (done_of outs (failed ++ (i, fault) ∷ [])) (Contains-fault_old outs failed i fault) (Contains-fault_new outs failed i fault);
        }))

    -- the worker stopped, and nothing was added
    pub stopped_worker : (w : Worked Out Fault) → w.stopped ≡ true → (w.pass ≡ p) × (w.outs.items ≡ outs) × (w.faults.items ≡ failed) → IsWorked answers faults board w
    stopped_worker w stopped same =
        IsWorked-stopped answers faults board w stopped (subst (λ (q : PassView). IsPassOf board q) (sym same.0) was.of_board) (rw (same.0, same.1, same.2) was.work)
