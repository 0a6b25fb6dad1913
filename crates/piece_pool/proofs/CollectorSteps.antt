-- What all workers together return.
use Rattle.std.proofs.Common.{◌≡◌, ℕ, ◌<◌, ◌≤◌, eqb, List, [], ◌∷◌, ◌++◌, length, get_or, All, Any, Contains, false, arith, refl, ap, ◌∙◌, sym, inl, inr, ⊎_elim, ◌⊎◌, subst}
use Rattle.std.proofs.lemmas.Grind.{flat_map-append}
use Rattle.std.proofs.lemmas.List.{map-append, append-nil}
use Rattle.std.proofs.lemmas.List.Sums.{sum_by-append}
use Rattle.std.proofs.lemmas.Bool.{eq-eqb}
use Rattle.std.proofs.lemmas.Bool.Decides.{eqb_tells}
use Rattle.std.proofs.lemmas.List.Elements.{All-nil, All-push, All-cons, All-append, All-head, All-tail, All-weaker, All-contains, Contains-get_or, Contains-append_left, Contains-append_right, Contains-append_cases}
use Rattle.piece_board.specs.Counts.{times}
use Rattle.piece_board.specs.Pass.{PassView}
use Rattle.piece_board.specs.Board.{BoardView, IsPassOf, IsClosed, drawn_by, reported_by}
use Rattle.piece_pool.specs.Worked.{numbers_of, done_of, CoversUpTo, IsWorked}
use Rattle.piece_pool.specs.Collected.{IsSettled, all_draws, all_reports, IsCollected}
use Rattle.piece_pool.proofs.WorkerSteps.{times-append}
use Rattle.piece_pool.specs.declared.worker.Worked.{Worked}
use Rattle.piece_pool.proofs.SlotSteps.{Contains-nil, Contains-cons_head, Contains-cons_tail, Contains-cons_cases}

-- outputs and faults after others
module _ {Out Fault : Type 0} (outs outs' : List (ℕ × Out)) (failed failed' : List (ℕ × Fault)) (i : ℕ) where
  pub Contains-done_old : Contains (done_of outs failed) i → Contains (done_of (outs ++ outs') (failed ++ failed')) i
  Contains-done_old h =
      rw map-append (rw map-append (⊎_elim (λ a. Contains-append_left _ _ i (Contains-append_left _ _ i a)) (λ b. Contains-append_right (numbers_of outs ++ numbers_of outs') _ i (Contains-append_left _ _ i b)) (Contains-append_cases (numbers_of outs) (numbers_of failed) i h)))

  pub Contains-done_new : Contains (done_of outs' failed') i → Contains (done_of (outs ++ outs') (failed ++ failed')) i
  Contains-done_new h =
      rw map-append (rw map-append (⊎_elim (λ a. Contains-append_left _ _ i (Contains-append_right (numbers_of outs) _ i a)) (λ b. Contains-append_right (numbers_of outs ++ numbers_of outs') _ i (Contains-append_right (numbers_of failed) _ i b)) (Contains-append_cases (numbers_of outs') (numbers_of failed') i h)))

-- one more worker that did not stop
pub unstopped-more : {Out Fault : Type 0} (w : Worked Out Fault) (ws : List (Worked Out Fault)) → w.stopped ≡ false → All (λ (v : Worked Out Fault). v.stopped ≡ false) ws → All (λ (v : Worked Out Fault). v.stopped ≡ false) (w ∷ ws)
unstopped-more w ws h all = All-cons (λ v. v.stopped ≡ false) w ws h all

-- nothing is collected at first
pub IsCollected-none : {Out Fault : Type 0} (answers : ℕ → Out → Type 0) (faults : ℕ → Fault → Type 0) (board : BoardView) → IsCollected answers faults board [] [] []
IsCollected-none {Out = Out} {Fault = Fault} answers faults board = record {
  of_board = All-nil (λ p. IsPassOf board p);
  finished = All-nil (λ p. 0 < p.history.finished);
  returned = All-nil (λ p. answers p.0 p.1);
  faulted = All-nil (λ p. faults p.0 p.1);
  reported = refl;
  covers = All-nil (λ p. CoversUpTo p.history.seen p.history.draws (done_of {Out = Out} {Fault = Fault} [] []));
}

-- one more worker
pub IsCollected-more : {Out Fault : Type 0} (answers : ℕ → Out → Type 0) (faults : ℕ → Fault → Type 0) (board : BoardView) (ps : List PassView) (outs : List (ℕ × Out)) (failed : List (ℕ × Fault)) (w : Worked Out Fault) → IsCollected answers faults board ps outs failed → IsWorked answers faults board w → w.stopped ≡ false → IsCollected answers faults board (ps ++ w.pass ∷ []) (outs ++ w.outs.items) (failed ++ w.faults.items)
IsCollected-more answers faults board ps outs failed w all one going = record {
  of_board = All-push (λ p. IsPassOf board p) ps w.pass all.of_board one.of_board;
  finished = All-push (λ p. 0 < p.history.finished) ps w.pass all.finished (one.finished going);
  returned = All-append (λ p. answers p.0 p.1) outs w.outs.items all.returned one.work.returned;
  faulted = All-append (λ p. faults p.0 p.1) failed w.faults.items all.faulted one.work.faulted;
  reported = rw (map-append, flat_map-append, append-nil) (ap (λ xs. xs ++ numbers_of w.faults.items) all.reported ∙ ap (λ xs. all_reports ps ++ xs) one.work.reported);
  covers = All-push (λ p. CoversUpTo p.history.seen p.history.draws (done_of (outs ++ w.outs.items) (failed ++ w.faults.items))) ps w.pass (All-weaker (λ p. CoversUpTo p.history.seen p.history.draws (done_of outs failed)) (λ p. CoversUpTo p.history.seen p.history.draws (done_of (outs ++ w.outs.items) (failed ++ w.faults.items))) (λ p h i drawn low. Contains-done_old outs w.outs.items failed w.faults.items i (h i drawn low)) ps all.covers) (λ i drawn low. Contains-done_new outs w.outs.items failed w.faults.items i (one.covers going i drawn low));
}

-- a number is done if some pass drew it and no pass has seen a smaller report
pub Contains-drawn : (ps : List PassView) (done : List ℕ) (least i : ℕ) → All (λ p. CoversUpTo p.history.seen p.history.draws done) ps → All (λ p. least ≤ p.history.seen) ps → i ≤ least → Contains (all_draws ps) i → Contains done i
Contains-drawn [] done least i covers seen low h = absurd (Contains-nil i h)
Contains-drawn (p ∷ ps) done least i covers seen low h =
    ⊎_elim (λ here. All-head (λ q. CoversUpTo q.history.seen q.history.draws done) p ps covers i here (omega (arith, low, All-head (λ q. least ≤ q.history.seen) p ps seen))) (λ there. Contains-drawn ps done least i (All-tail (λ q. CoversUpTo q.history.seen q.history.draws done) p ps covers) (All-tail (λ q. least ≤ q.history.seen) p ps seen) low there) (Contains-append_cases p.history.draws (all_draws ps) i h)

-- in a list that is not empty and all of whose elements satisfy P, some element satisfies P
pub Any-first : {X : Type 0} (P : X → Type 0) (xs : List X) → All P xs → 0 < length xs → Any P xs
Any-first P [] h some = absurd (omega (arith, some))
Any-first P (x ∷ xs) h some = (0, x, omega arith, refl, All-head P x xs h)

-- an element has what is true of every value at its place
pub answer-at : {X : Type 0} (xs : List X) (P : X → Type 0) (i : ℕ) → i < length xs → ((d : X) → P (get_or xs i d)) → (x : X) × P x
answer-at [] P i low h = absurd (omega (arith, low))
answer-at (x ∷ xs) P i low h = (get_or (x ∷ xs) i x, h x)

-- a pair whose number is among the numbers
pub Contains-pair : {X : Type 0} (ps : List (ℕ × X)) (i : ℕ) → Contains (numbers_of ps) i → (x : X) × Contains ps (i, x)
Contains-pair [] i h = absurd (Contains-nil i h)
Contains-pair (p ∷ ps) i h =
    ⊎_elim (λ is. (p.1, subst (λ j. Contains (p ∷ ps) (j, p.1)) is (Contains-cons_head p ps))) (λ there. let rest = Contains-pair ps i there in (rest.0, Contains-cons_tail p ps (i, rest.0) rest.1)) (Contains-cons_cases p.0 (numbers_of ps) i h)

times-other : (a b : ℕ) → eqb b a ≡ false → times a (b ∷ []) ≡ 0
times-other a b e = rw e refl

times-same : (a b : ℕ) → b ≡ a → times a (b ∷ []) ≡ 1
times-same a b e = rw (eq-eqb b a e) refl

times-cons_cases : (a b : ℕ) (us : List ℕ) → 0 < times a (b ∷ us) → (b ≡ a) ⊎ (0 < times a us)
times-cons_cases a b us k =
    ⊎_elim (λ e. inl e.1) (λ n. inr (omega (arith, k, times-append a (b ∷ []) us, times-other a b n.0))) (eqb_tells b a)

-- a number is in a list exactly if it occurs there at least once
pub Contains-times : (x : ℕ) (xs : List ℕ) → 0 < times x xs → Contains xs x
Contains-times x [] h = absurd (omega (arith, h))
Contains-times x (y ∷ ys) h =
    ⊎_elim (λ is. subst (Contains (y ∷ ys)) is (Contains-cons_head y ys)) (λ more. Contains-cons_tail y ys x (Contains-times x ys more)) (times-cons_cases x y ys h)

pub times-contains : (x : ℕ) (xs : List ℕ) → Contains xs x → 0 < times x xs
times-contains x [] h = absurd (Contains-nil x h)
times-contains x (y ∷ ys) h =
    ⊎_elim (λ is. omega (arith, times-append x (y ∷ []) ys, times-same x y is)) (λ there. omega (arith, times-append x (y ∷ []) ys, times-contains x ys there)) (Contains-cons_cases y ys x h)

pub times-all_draws : (x : ℕ) (ps : List PassView) → times x (all_draws ps) ≡ drawn_by x ps
times-all_draws x [] = refl
times-all_draws x (p ∷ ps) = omega (arith, times-append x p.history.draws (all_draws ps), times-all_draws x ps, sum_by-append (λ q. times x q.history.draws) (p ∷ []) ps)

pub times-all_reports : (x : ℕ) (ps : List PassView) → times x (all_reports ps) ≡ reported_by x ps
times-all_reports x [] = refl
times-all_reports x (p ∷ ps) = omega (arith, times-append x p.history.reports (all_reports ps), times-all_reports x ps, sum_by-append (λ q. times x q.history.reports) (p ∷ []) ps)

-- the postcondition of `close`, in terms of lists
pub IsSettled-closed : (board : BoardView) (ps : List PassView) (drawn skipped least : ℕ) → IsClosed board ps drawn skipped least → IsSettled board ps drawn least
IsSettled-closed board ps drawn skipped least h = record {
  each_drawn = λ i low. Contains-times i (all_draws ps) (omega (arith, times-all_draws i ps, h.drawn_once i, low));
  complete = λ some. subst (λ (p : PassView). 0 < p.history.finished → drawn ≡ board.pieces) some.3 (h.all_drawn some.0 some.1 some.2) some.4;
  most = h.least_within;
  below_reports = λ k d low. h.lowest (get_or (all_reports ps) k d) (omega (arith, times-all_reports (get_or (all_reports ps) k d) ps, times-contains (get_or (all_reports ps) k d) (all_reports ps) (Contains-get_or (all_reports ps) k d low)));
  below_seen = h.seen_above;
  reported = λ low. Contains-times least (all_reports ps) (omega (arith, times-all_reports least ps, h.least_reported low));
}

-- once the board is closed, each piece below the least report has an output
module _ {Out Fault : Type 0} (answers : ℕ → Out → Type 0) (faults : ℕ → Fault → Type 0) (board : BoardView) (ps : List PassView) (outs : List (ℕ × Out)) (failed : List (ℕ × Fault)) (drawn least : ℕ) (all : IsCollected answers faults board ps outs failed) (closed : IsSettled board ps drawn least) (some : 0 < length ps) where
  pub drawn-all : drawn ≡ board.pieces
  drawn-all = closed.complete (Any-first (λ p. 0 < p.history.finished) ps all.finished some)

  pub Contains-below_least : (i : ℕ) → i < least → Contains (numbers_of outs) i
  Contains-below_least i low =
      ⊎_elim (λ a. a) (λ b. absurd (omega (arith, low, All-contains (λ r. least ≤ r) (all_reports ps) i closed.below_reports (subst (λ xs. Contains xs i) all.reported b)))) (Contains-append_cases (numbers_of outs) (numbers_of failed) i (Contains-drawn ps (done_of outs failed) least i all.covers closed.below_seen (omega arith) (closed.each_drawn i (omega (arith, drawn-all, closed.most)))))

  pub Contains-least : least < board.pieces → Contains (numbers_of failed) least
  Contains-least low = subst (λ xs. Contains xs least) (sym all.reported) (closed.reported low)
