-- What each call leaves in a pass.
use Rattle.std.proofs.Common.{◌≡◌, ◌≢◌, ⊎_elim, ℕ, ◌+◌, ◌<◌, ◌≤◌, cond, List, [], ◌∷◌, ◌++◌, refl, sym, ap, subst, arith, length-append}
use Rattle.std.specs.Prelude.{Option, Some, None, IfSome}
use Rattle.std.proofs.lemmas.Bool.{lt-ltb, le-ltb}
use Rattle.atomic_table.specs.Seated.{TableId}
use Rattle.piece_board.specs.declared.history.History.{History}
use Rattle.piece_board.specs.Counts.{times}
use Rattle.piece_board.specs.Protocol.{IsLast, after_draw, with_draw, with_end, with_report, with_seen}
use Rattle.piece_board.specs.Rule.{DrawsOnce}
use Rattle.piece_board.specs.Pass.{PassView, PassFacts, with_history}
use Rattle.piece_board.proofs.CountLaws.{one, one_is, times_push}

pub draw_below : (i : ℕ) (r : History) → i < r.pieces → after_draw i r ≡ with_draw i r
draw_below i r h = ap (λ b. cond b (with_draw i r) (with_end r)) (lt-ltb i r.pieces h)

pub draw_above : (i : ℕ) (r : History) → r.pieces ≤ i → after_draw i r ≡ with_end r
draw_above i r h = ap (λ b. cond b (with_draw i r) (with_end r)) (le-ltb i r.pieces h)

pub same_pass : (p : PassView) (b : TableId) (r r' : History) (last : Option ℕ) → b ≡ p.board → r ≡ r' → record { board = b; history = r; last = last; skips = p.skips; lowest_skip = p.lowest_skip } ≡ with_history p r' last
same_pass p b r r' last e f i = record { board = e i; history = f i; last = last; skips = p.skips; lowest_skip = p.lowest_skip }

pub push_counts : (i : ℕ) (xs : List ℕ) → times i (xs ++ i ∷ []) ≡ times i xs + 1
push_counts i xs = let a = times_push i xs i in ⊎_elim (λ (t : (i ≡ i) × (one i i ≡ 1)). let c = t.1 in omega arith) (λ (t : (i ≢ i) × (one i i ≡ 0)). absurd (t.0 refl)) (one_is i i)

pub last_occurs : (i : ℕ) (xs : List ℕ) → IsLast i xs → 0 < times i xs
last_occurs i xs l = subst (λ ys. 0 < times i ys) (sym l.1) (let a = push_counts i l.0 in omega arith)

module _ (p : PassView) (h : PassFacts p) where
  pub draw_kept : (i : ℕ) → p.history.finished ≡ 0 → DrawsOnce (with_draw i p.history) → PassFacts (with_history p (with_draw i p.history) (Some i))
  draw_kept i going once = record {
    single = h.single;
    pieces_fit = h.pieces_fit;
    once = once;
    among = λ x. let a = h.among x in let b = times_push x p.history.draws i in omega arith;
    last_is = ((p.history.draws, refl), (let a = once i in let b = push_counts i p.history.draws in let c = h.among i in omega arith), going);
    above = h.above;
    room = let a = h.room in let b = length-append p.history.draws (i ∷ []) in omega arith;
  }

  pub end_kept : PassFacts (with_history p (with_end p.history) None)
  end_kept = record {
    single = h.single;
    pieces_fit = h.pieces_fit;
    once = h.once;
    among = h.among;
    last_is = tt;
    above = h.above;
    room = let a = h.room in omega arith;
  }

  pub report_kept : (i : ℕ) → 0 < times i p.history.draws → times i p.history.reports ≡ 0 → PassFacts (with_history p (with_report i p.history) None)
  report_kept i mine new = record {
    single = h.single;
    pieces_fit = h.pieces_fit;
    once = h.once;
    among = λ x. let a = h.among x in let b = times_push x p.history.reports i in
        ⊎_elim (λ (t : (i ≡ x) × (one i x ≡ 1)). let c = t.1 in let d : times x p.history.reports ≡ 0 = subst (λ z. times z p.history.reports ≡ 0) t.0 new in let f : 0 < times x p.history.draws = subst (λ z. 0 < times z p.history.draws) t.0 mine in omega arith)
        (λ (t : (i ≢ x) × (one i x ≡ 0)). let c = t.1 in omega arith) (one_is i x);
    last_is = tt;
    above = h.above;
    room = let a = h.room in omega arith;
  }

  pub look_kept : (i : ℕ) → i ≤ p.history.seen → PassFacts (with_history p (with_seen i p.history) p.last)
  look_kept i down = record {
    single = h.single;
    pieces_fit = h.pieces_fit;
    once = h.once;
    among = h.among;
    last_is = h.last_is;
    above = still p.lowest_skip h.above;
    room = h.room;
  }
    where
      still : (o : Option ℕ) → IfSome o (λ x. p.history.seen < x) → IfSome o (λ x. i < x)
      still None f = tt
      still (Some x) f = omega (arith, f)
