-- The invariant of a board, after every run.
use Rattle.std.proofs.Common.{true, false, cond, ltb, ◌≡◌, ◌≢◌, ⊎_elim, ℕ, zero, suc, ◌+◌, ◌<◌, min, List, [], ◌∷◌, set, refl, sym, ap, subst, inl, arith}
use Rattle.std.specs.Prelude.{replicate}
use Rattle.std.proofs.lemmas.List.Folds.{sum_by-replicate}
use mathlib.Core.Option.{some, some-injective, some-ne-none}
use lib.ListN.{get_elem?}
use Rattle.piece_board.specs.declared.history.History.{History}
use Rattle.piece_board.specs.Counts.{times}
use Rattle.piece_board.specs.Protocol.{fresh, with_draw, with_end, with_report, with_seen, after_draw, BoardState, opening, Event, draw, report, look, change, IsLast, Admits, after, run, AdmitsAll}
use Rattle.piece_board.specs.Rule.{HistoryClaims, CountedClaims}
use Rattle.piece_board.proofs.CountLaws.{one, one_is, times_push}
use Rattle.piece_board.proofs.StepLaws.{each_set, draws, reports, looks}

pub change_is : (s : ℕ) (f : History → History) (histories : List History) (r : History) → get_elem? histories s ≡ some r → set histories s (f r) ≡ change s f histories
change_is s f [] r e = absurd (some-ne-none r (sym e))
change_is zero f (x ∷ xs) r e = ap (λ (y : History). f y ∷ xs) (sym (some-injective x r e))
change_is (suc s) f (x ∷ xs) r e = ap (λ (ys : List History). x ∷ ys) (change_is s f xs r e)

abbrev Single : List History → Type 0
Single histories = (s : ℕ) (r : History) → get_elem? histories s ≡ some r → r.seats ≡ 1

replicated : (k : ℕ) (v : History) (s : ℕ) (r : History) → get_elem? (replicate k v) s ≡ some r → v ≡ r
replicated zero v s r e = absurd (some-ne-none r (sym e))
replicated (suc k) v zero r e = some-injective v r e
replicated (suc k) v (suc s) r e = replicated k v s r e

pub opens : (n k : ℕ) → CountedClaims n k 0 n (replicate k (fresh n 1))
opens n k = let v : History = fresh n 1 in record {
  once = λ x. let a = sum_by-replicate (λ (u : History). times x u.draws) k v in omega arith;
  bounded = omega arith;
  seated = let a = sum_by-replicate (λ (u : History). u.seats) k v in omega arith;
  least_is = inl refl;
  lowest = λ x p. let a = sum_by-replicate (λ (u : History). times x u.reports) k v in absurd (omega arith);
  within = omega arith;
  each = λ s r e. subst (HistoryClaims n 0 n (replicate k v)) (replicated k v s r e) record {
    pieces = λ _. refl;
    ended = λ f. absurd (omega arith);
    counted = omega arith;
    among = λ x. omega arith;
    seen_is = λ _. inl refl;
    seen_above = λ _. omega arith;
    spent = λ x _. refl;
  };
}

last_counts : (i : ℕ) (xs : List ℕ) → IsLast i xs → 0 < times i xs
last_counts i xs l = subst (λ ys. 0 < times i ys) (sym l.1) (let a = times_push i l.0 i in
    ⊎_elim (λ (t : (i ≡ i) × (one i i ≡ 1)). let c = t.1 in omega arith) (λ (t : (i ≢ i) × (one i i ≡ 0)). absurd (t.0 refl)) (one_is i i))

abbrev Good : ℕ → ℕ → BoardState → Type 0
Good n k c = CountedClaims n k c.next c.least c.histories × Single c.histories

single_draw : (i : ℕ) (r : History) → r.seats ≡ 1 → (after_draw i r).seats ≡ 1
single_draw i r e = elim (ltb i r.pieces) as (λ b. (cond b (with_draw i r) (with_end r)).seats ≡ 1) [ true ↦ e | false ↦ e ]

steps : (n k : ℕ) (c : BoardState) (e : Event) → Good n k c → Admits c e → Good n k (after c e)
steps n k c (draw s) g a = let live = g.1 s a.0 a.1 in subst (λ rs. CountedClaims n k (c.next + 1) c.least rs × Single rs) (change_is s (after_draw c.next) c.histories a.0 a.1)
    (draws n k c.next c.least c.histories g.0 s a.0 a.1 (omega arith) a.2, each_set (λ (u : History). u.seats ≡ 1) c.histories s (after_draw c.next a.0) g.1 (single_draw c.next a.0 live))
steps n k c (report s i) g a = let live = g.1 s a.0 a.1 in subst (λ rs. CountedClaims n k c.next (min c.least i) rs × Single rs) (change_is s (with_report i) c.histories a.0 a.1)
    (reports n k c.next c.least c.histories g.0 s a.0 a.1 i (omega arith) (last_counts i a.0.draws a.3) a.4, each_set (λ (u : History). u.seats ≡ 1) c.histories s (with_report i a.0) g.1 live)
steps n k c (look s) g a = let live = g.1 s a.0 a.1 in subst (λ rs. CountedClaims n k c.next c.least rs × Single rs) (change_is s (with_seen c.least) c.histories a.0 a.1)
    (looks n k c.next c.least c.histories g.0 s a.0 a.1, each_set (λ (u : History). u.seats ≡ 1) c.histories s (with_seen c.least a.0) g.1 live)

pub keeps_on : (n k : ℕ) (c : BoardState) (es : List Event) → Good n k c → AdmitsAll c es → Good n k (run c es)
keeps_on n k c [] g r = g
keeps_on n k c (e ∷ es) g r = keeps_on n k (after c e) es (steps n k c e g r.0) r.1

pub all_runs : (n k : ℕ) (es : List Event) → AdmitsAll (opening n k) es → CountedClaims n k (run (opening n k) es).next (run (opening n k) es).least (run (opening n k) es).histories
all_runs n k es r = (keeps_on n k (opening n k) es (opens n k, λ s u e. ap (λ (v : History). v.seats) (sym (replicated k (fresh n 1) s u e))) r).0

pub all_single : (n k : ℕ) (es : List Event) → AdmitsAll (opening n k) es → Single (run (opening n k) es).histories
all_single n k es r = (keeps_on n k (opening n k) es (opens n k, λ s u e. ap (λ (v : History). v.seats) (sym (replicated k (fresh n 1) s u e))) r).1
