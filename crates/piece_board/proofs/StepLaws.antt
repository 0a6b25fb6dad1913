-- Each event preserves the invariant of a board.
use Rattle.std.proofs.Common.{◌≡◌, ◌≢◌, ◌⊎◌, ⊎_elim, ℕ, ◌+◌, ◌<◌, ◌≤◌, min, cond, List, set, refl, sym, ap, subst, inl, inr, arith}
use Rattle.std.proofs.lemmas.Bool.{lt-ltb, le-ltb}
use mathlib.Core.Logic.{dite}
use mathlib.Core.Option.{some}
use native.Mathlib.Decide.{dec_le}
use lib.ListN.{get_elem?}
use Rattle.atomic_table.proofs.Lists.{at_set}
use Rattle.piece_board.specs.declared.history.History.{History}
use Rattle.piece_board.specs.Counts.{times, once_below}
use Rattle.piece_board.specs.Protocol.{with_draw, with_end, with_report, with_seen, after_draw}
use Rattle.piece_board.specs.Claims.{finished}
use Rattle.piece_board.specs.Rule.{drawn, reported, seats, HistoryClaims, CountedClaims}
use Rattle.piece_board.proofs.CountLaws.{sum_at, at_le, one, one_is, times_push}

pub each_set : (P : History → Type 0) (histories : List History) (s : ℕ) (w : History) → ((j : ℕ) (u : History) → get_elem? histories j ≡ some u → P u) → P w
    → (j : ℕ) (u : History) → get_elem? (set histories s w) j ≡ some u → P u
each_set P histories s w others mine j u e = ⊎_elim (λ (t : (j ≡ s) × (w ≡ u)). subst P t.1 mine) (λ (t : (j ≢ s) × (get_elem? histories j ≡ some u)). others j u t.1) (at_set histories s j w u e)

-- the claims of a history are true if the numbers have grown
pub grown : (n next least : ℕ) (histories : List History) (next' least' : ℕ) (histories' : List History) (u : History) → next ≤ next' → least' ≤ least → ((x : ℕ) → reported x histories ≤ reported x histories')
    → HistoryClaims n next least histories u → HistoryClaims n next' least' histories' u
grown n next least histories next' least' histories' u up down more h = record {
  pieces = h.pieces;
  ended = λ f. let a = h.ended f in omega arith;
  counted = h.counted;
  among = h.among;
  seen_is = λ live. ⊎_elim (λ (a : u.seen ≡ n). inl a) (λ (b : 0 < reported u.seen histories). let m = more u.seen in inr (omega arith)) (h.seen_is live);
  seen_above = λ live. let a = h.seen_above live in omega arith;
  spent = h.spent;
}

module _ (n k next least : ℕ) (histories : List History) (h : CountedClaims n k next least histories) (s : ℕ) (r : History) (at : get_elem? histories s ≡ some r) where
  same_reports : (w : History) → w.reports ≡ r.reports → (x : ℕ) → reported x (set histories s w) ≡ reported x histories
  same_reports w e x = let a = sum_at (λ (u : History). times x u.reports) histories s r w at in let b : times x w.reports ≡ times x r.reports = ap (times x) e in omega arith

  same_finished : (w : History) → w.finished ≡ r.finished → finished (set histories s w) ≡ finished histories
  same_finished w e = let a = sum_at (λ (u : History). u.finished) histories s r w at in omega arith

  same_seats : (w : History) → w.seats ≡ r.seats → seats (set histories s w) ≡ k
  same_seats w e = let a = sum_at (λ (u : History). u.seats) histories s r w at in let b = h.seated in omega arith

  same_draws : (w : History) → w.draws ≡ r.draws → (x : ℕ) → drawn x (set histories s w) ≡ drawn x histories
  same_draws w e x = let a = sum_at (λ (u : History). times x u.draws) histories s r w at in let b : times x w.draws ≡ times x r.draws = ap (times x) e in omega arith

  draws_below : 0 < r.seats → next < n → CountedClaims n k (next + 1) least (set histories s (with_draw next r))
  draws_below live below = let w : History = with_draw next r in let mine = h.each s r at in let same = same_reports w refl in record {
    once = λ x. let a = sum_at (λ (u : History). times x u.draws) histories s r w at in let b = times_push x r.draws next in let c = h.once x in
        ⊎_elim (λ (t : (next ≡ x) × (one next x ≡ 1)). let is = t.0 in let count = t.1 in omega arith) (λ (t : (next ≢ x) × (one next x ≡ 0)). let not = t.0 in let count = t.1 in omega arith) (one_is next x);
    bounded = let a = h.bounded in let b = same_finished w refl in omega arith;
    seated = same_seats w refl;
    least_is = ⊎_elim (λ (a : least ≡ n). inl a) (λ (b : 0 < reported least histories). let e = same least in inr (omega arith)) h.least_is;
    lowest = λ x p. let e = same x in h.lowest x (omega arith);
    within = h.within;
    each = each_set (HistoryClaims n (next + 1) least (set histories s w)) histories s w
        (λ j u e. grown n next least histories (next + 1) least (set histories s w) u (omega arith) (omega arith) (λ x. let e = same x in omega arith) (h.each j u e))
        record {
          pieces = mine.pieces;
          ended = λ f. let a = mine.ended f in omega arith;
          counted = mine.counted;
          among = λ x. let a = mine.among x in let b = times_push x r.draws next in omega arith;
          seen_is = λ l. ⊎_elim (λ (a : r.seen ≡ n). inl a) (λ (b : 0 < reported r.seen histories). let m = same r.seen in inr (omega arith)) (mine.seen_is l);
          seen_above = mine.seen_above;
          spent = λ x none. absurd (omega arith);
        };
  }

  ends_one : 0 < r.seats → r.finished ≡ 0 → n ≤ next → CountedClaims n k (next + 1) least (set histories s (with_end r))
  ends_one live going above = let w : History = with_end r in let mine = h.each s r at in let same = same_reports w refl in record {
    once = λ x. let a = same_draws w refl x in let c = h.once x in omega arith;
    bounded = let a = h.bounded in let b = sum_at (λ (u : History). u.finished) histories s r w at in omega arith;
    seated = same_seats w refl;
    least_is = ⊎_elim (λ (a : least ≡ n). inl a) (λ (b : 0 < reported least histories). let e = same least in inr (omega arith)) h.least_is;
    lowest = λ x p. let e = same x in h.lowest x (omega arith);
    within = h.within;
    each = each_set (HistoryClaims n (next + 1) least (set histories s w)) histories s w
        (λ j u e. grown n next least histories (next + 1) least (set histories s w) u (omega arith) (omega arith) (λ x. let e = same x in omega arith) (h.each j u e))
        record {
          pieces = mine.pieces;
          ended = λ f. omega arith;
          counted = omega arith;
          among = mine.among;
          seen_is = λ l. ⊎_elim (λ (a : r.seen ≡ n). inl a) (λ (b : 0 < reported r.seen histories). let m = same r.seen in inr (omega arith)) (mine.seen_is l);
          seen_above = mine.seen_above;
          spent = mine.spent;
        };
  }

  pub draws : 0 < r.seats → r.finished ≡ 0 → CountedClaims n k (next + 1) least (set histories s (after_draw next r))
  draws live going = let mine = h.each s r at in let is : r.pieces ≡ n = mine.pieces live in dite (dec_le n next)
      (λ above. subst (λ b. CountedClaims n k (next + 1) least (set histories s (cond b (with_draw next r) (with_end r)))) (sym (le-ltb next r.pieces (omega arith))) (ends_one live going above))
      (λ below. subst (λ b. CountedClaims n k (next + 1) least (set histories s (cond b (with_draw next r) (with_end r)))) (sym (lt-ltb next r.pieces (omega arith))) (draws_below live (omega arith)))

  pub reports : (i : ℕ) → 0 < r.seats → 0 < times i r.draws → times i r.reports ≡ 0 → CountedClaims n k next (min least i) (set histories s (with_report i r))
  reports i live drawn_one new = let w : History = with_report i r in let mine = h.each s r at in
      let more : (x : ℕ) → reported x (set histories s w) ≡ reported x histories + one i x = λ x. let a = sum_at (λ (u : History). times x u.reports) histories s r w at in let b = times_push x r.reports i in omega arith in record {
        once = λ x. let a = same_draws w refl x in let c = h.once x in omega arith;
        bounded = let a = h.bounded in let b = same_finished w refl in omega arith;
        seated = same_seats w refl;
        least_is = dite (dec_le least i)
            (λ le. let is : least ≡ min least i = omega arith in subst (λ z. (z ≡ n) ⊎ (0 < reported z (set histories s w))) is (⊎_elim (λ (a : least ≡ n). inl a) (λ (b : 0 < reported least histories). let e = more least in inr (omega arith)) h.least_is))
            (λ gt. let is : i ≡ min least i = omega arith in subst (λ z. (z ≡ n) ⊎ (0 < reported z (set histories s w))) is
            (inr (let e = more i in ⊎_elim (λ (t : (i ≡ i) × (one i i ≡ 1)). let c = t.1 in omega arith) (λ (t : (i ≢ i) × (one i i ≡ 0)). absurd (t.0 refl)) (one_is i i))));
        lowest = λ x p. let e = more x in ⊎_elim (λ (t : (i ≡ x) × (one i x ≡ 1)). let c = t.0 in omega arith) (λ (t : (i ≢ x) × (one i x ≡ 0)). let c = t.1 in let l = h.lowest x (omega arith) in omega arith) (one_is i x);
        within = let a = h.within in omega arith;
        each = each_set (HistoryClaims n next (min least i) (set histories s w)) histories s w
            (λ j u e. grown n next least histories next (min least i) (set histories s w) u (omega arith) (omega arith) (λ x. let e = more x in omega arith) (h.each j u e))
            record {
              pieces = mine.pieces;
              ended = mine.ended;
              counted = mine.counted;
              among = λ x. let a = mine.among x in let b = times_push x r.reports i in
                  ⊎_elim (λ (t : (i ≡ x) × (one i x ≡ 1)). let c = t.1 in let d : times x r.reports ≡ 0 = subst (λ z. times z r.reports ≡ 0) t.0 new in let f : 0 < times x r.draws = subst (λ z. 0 < times z r.draws) t.0 drawn_one in omega arith)
                  (λ (t : (i ≢ x) × (one i x ≡ 0)). let c = t.1 in omega arith) (one_is i x);
              seen_is = λ l. ⊎_elim (λ (a : r.seen ≡ n). inl a) (λ (b : 0 < reported r.seen histories). let m = more r.seen in inr (omega arith)) (mine.seen_is l);
              seen_above = λ l. let a = mine.seen_above l in omega arith;
              spent = mine.spent;
            };
      }

  pub looks : CountedClaims n k next least (set histories s (with_seen least r))
  looks = let w : History = with_seen least r in let mine = h.each s r at in let same = same_reports w refl in record {
    once = λ x. let a = same_draws w refl x in let c = h.once x in omega arith;
    bounded = let a = h.bounded in let b = same_finished w refl in omega arith;
    seated = same_seats w refl;
    least_is = ⊎_elim (λ (a : least ≡ n). inl a) (λ (b : 0 < reported least histories). let e = same least in inr (omega arith)) h.least_is;
    lowest = λ x p. let e = same x in h.lowest x (omega arith);
    within = h.within;
    each = each_set (HistoryClaims n next least (set histories s w)) histories s w
        (λ j u e. grown n next least histories next least (set histories s w) u (omega arith) (omega arith) (λ x. let e = same x in omega arith) (h.each j u e))
        record {
          pieces = mine.pieces;
          ended = mine.ended;
          counted = mine.counted;
          among = mine.among;
          seen_is = λ l. ⊎_elim (λ (a : least ≡ n). inl a) (λ (b : 0 < reported least histories). let m = same least in inr (omega arith)) h.least_is;
          seen_above = λ l. omega arith;
          spent = mine.spent;
        };
  }

  -- the claims of a history about itself
  pub own_draws : (x : ℕ) → times x r.draws ≤ once_below x n
  own_draws x = let a = at_le (λ (u : History). times x u.draws) histories s r at in let b = h.once x in omega arith
