-- What is kept, seat by seat.
use Rattle.std.proofs.Common.{◌≡◌, ⊎_elim, ℕ, ◌<◌, ◌≤◌, ◌^◌, List, inl, inr, arith}
use Rattle.std.specs.Prelude.{slice_index}
use Rattle.atomic_table.specs.Table.{State}
use Rattle.piece_board.specs.declared.history.History.{History}
use Rattle.piece_board.specs.declared.rule.Size.{Size}
use Rattle.piece_board.specs.Counts.{times}
use Rattle.piece_board.specs.Protocol.{BoardState, Event, opening, run, AdmitsAll}
use Rattle.piece_board.specs.Claims.{finished, IsReported, Claims}
use Rattle.piece_board.specs.Rule.{reported, CountedClaims, KeepsRule}
use Rattle.piece_board.specs.Laws.{AreSingle}
use Rattle.piece_board.proofs.CountLaws.{at_le, sum_le, some_term, two_terms}
use Rattle.piece_board.proofs.RunLaws.{all_runs, all_single}

module _ (n k next least : ℕ) (histories : List History) (fits : n ≤ 2 ^ 62) (few : k ≤ 64) (h : CountedClaims n k next least histories) where
  is_reported : (x : ℕ) → 0 < reported x histories → IsReported histories x
  is_reported x p = let t = some_term (λ (u : History). times x u.reports) histories p in (t.0, t.1, t.2, t.3)

  counts : (x : ℕ) → IsReported histories x → 0 < reported x histories
  counts x t = let a = at_le (λ (u : History). times x u.reports) histories t.0 t.1 t.2 in let b = t.3 in omega arith

  finished_few : finished histories ≤ k
  finished_few = let a = sum_le (λ (u : History). u.finished) (λ (u : History). u.seats) histories (λ i v e. (h.each i v e).counted) in let b = h.seated in omega arith

  pub claims : Claims n k next least histories
  claims = record {
    drawn_once = λ x l. let a = h.once x in let t = some_term (λ (u : History). times x u.draws) histories (omega arith) in let most = at_le (λ (u : History). times x u.draws) histories t.0 t.1 t.2 in let pos = t.3 in
        (t.0, t.1, t.2, omega arith, λ j u at ne. let b = two_terms (λ (v : History). times x v.draws) histories t.0 j t.1 u t.2 at ne in omega arith);
    no_other = λ x l s r at. let a = h.once x in let b = at_le (λ (u : History). times x u.draws) histories s r at in omega arith;
    ended = λ s r at f. (h.each s r at).ended f;
    finished_once = λ s r at. (h.each s r at).counted;
    next_bound = h.bounded;
    finished_bound = finished_few;
    no_wrap = let a = h.bounded in let b = finished_few in omega arith;
    least_is = ⊎_elim (λ (a : least ≡ n). inl a) (λ (b : 0 < reported least histories). inr (is_reported least b)) h.least_is;
    lowest = λ x t. h.lowest x (counts x t);
    seen_is = λ s r at live. ⊎_elim (λ (a : r.seen ≡ n). inl a) (λ (b : 0 < reported r.seen histories). inr (is_reported r.seen b)) ((h.each s r at).seen_is live);
    seen_above = λ s r at live. (h.each s r at).seen_above live;
    among = λ s r at x p. let a = (h.each s r at).among x in omega arith;
    reported_once = λ s r at x. let a = (h.each s r at).among x in let b = at_le (λ (u : History). times x u.draws) histories s r at in let d = h.once x in omega arith;
  }

pub all_claims : (n k : ℕ) (es : List Event) → n ≤ 2 ^ 62 → k ≤ 64 → AdmitsAll (opening n k) es
    → let c = run (opening n k) es in Claims n k c.next c.least c.histories × AreSingle c.histories
all_claims n k es fits few r = let c : BoardState = run (opening n k) es in (claims n k c.next c.least c.histories fits few (all_runs n k es r), all_single n k es r)

pub rule_claims : (size : Size) (s : State (Unit {0}) History) → KeepsRule size s → Claims size.pieces size.seats (slice_index s.words 0) (slice_index s.words 1) s.views
rule_claims size s h = claims size.pieces size.seats (slice_index s.words 0) (slice_index s.words 1) s.views h.pieces_fit h.seats_fit h.kept
