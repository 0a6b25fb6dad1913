-- Joined passes, and what the last state says of them.
use Rattle.std.proofs.Common.{◌≡◌, ⊎_elim, ℕ, zero, suc, ◌+◌, ◌-◌, ◌<◌, ◌≤◌, ◌^◌, min, List, [], ◌∷◌, ◌++◌, length, get_or, sym, ap, arith}
use Rattle.std.specs.Prelude.{Option, Some, None, IfSome, All}
use Rattle.std.proofs.lemmas.List.Sums.{sum_by_push, get_or-le-sum_by}
use Rattle.std.proofs.lemmas.List.Elements.{All-cons, All-nil, All-push}
use mathlib.Core.Option.{some, some-injective, some-ne-none}
use lib.ListN.{get_elem?}
use Rattle.piece_board.specs.declared.history.History.{History}
use Rattle.piece_board.specs.declared.rule.Size.{Size}
use Rattle.piece_board.specs.Counts.{times}
use Rattle.piece_board.specs.Pass.{PassView, PassFacts}
use Rattle.piece_board.specs.Board.{BoardView, drawn_by, reported_by, finished_of, skips_of, IsClosed}
use Rattle.piece_board.specs.Joining.{HasJoined}
use Rattle.piece_board.proofs.LengthLaws.{length_few}
use Rattle.piece_board.proofs.TableSteps.{EndClaims}

pub all_mid : {X : Type 0} (P : X → Type 0) (xs : List X) (x : X) (ys : List X) → All P ((xs ++ x ∷ []) ++ ys) → P x
all_mid P [] x ys h = h 0 x (omega arith)
all_mid P (z ∷ xs) x ys h = all_mid P xs x ys (λ k d l. h (suc k) d (omega arith))

pub all_front : {X : Type 0} (P : X → Type 0) (xs ys : List X) → All P (xs ++ ys) → All P xs
all_front P [] ys h = All-nil P
all_front P (x ∷ xs) ys h = All-cons P x xs (h 0 x (omega arith)) (all_front P xs ys (λ k d l. h (suc k) d (omega arith)))

pub word_is : (ws : List ℕ) (i r : ℕ) → get_elem? ws i ≡ some r → get_or ws i 0 ≡ r
word_is [] i r e = absurd (some-ne-none r (sym e))
word_is (w ∷ ws) zero r e = some-injective w r e
word_is (w ∷ ws) (suc i) r e = word_is ws i r e

still_above : (o : Option ℕ) (a b : ℕ) → b ≤ a → IfSome o (λ i. a < i) → IfSome o (λ i. b < i)
still_above None a b h f = tt
still_above (Some i) a b h f = omega (arith, f)

pub closed_is : (size : Size) (b : BoardView) (rest : List PassView) (last : PassView) (history : History) (next least skipped : ℕ) → PassFacts last → HasJoined last.history rest history → EndClaims size next least history
    → size.pieces ≡ b.pieces → last.history.pieces ≡ b.pieces → skipped ≡ min (2 ^ 64 - 1) (last.skips + skips_of rest) → IsClosed b (rest ++ last ∷ []) (min next b.pieces) skipped least
closed_is size b rest last history next least skipped k g w same mine sum = let ps : List PassView = rest ++ last ∷ [] in
    let drawn_is : (x : ℕ) → drawn_by x ps ≡ times x history.draws = λ x. let a = sum_by_push (λ (q : PassView). times x q.history.draws) rest last in let c = g.draws x in omega arith in
    let reported_is : (x : ℕ) → reported_by x ps ≡ times x history.reports = λ x. let a = sum_by_push (λ (q : PassView). times x q.history.reports) rest last in let c = g.reports x in omega arith in
    let finished_is : finished_of ps ≡ history.finished = let a = sum_by_push (λ (q : PassView). q.history.finished) rest last in let c = g.finished in omega arith in
    let skips_is : skips_of ps ≡ skips_of rest + last.skips = sum_by_push (λ (q : PassView). q.skips) rest last in
    let few : length history.draws ≤ size.pieces = length_few size.pieces history.draws (λ x. let a = w.once x in omega arith) in record {
      drawn_once = λ x. let a = drawn_is x in let c = w.once x in let z : min next size.pieces ≡ min next b.pieces = ap (min next) same in omega arith;
      drawn_within = omega arith;
      all_drawn = λ i d l f. let a = get_or-le-sum_by (λ (q : PassView). q.history.finished) ps i d l in let e = w.ended (omega arith) in omega arith;
      least_within = let a = w.within in omega arith;
      least_reported = λ l. let a = reported_is least in ⊎_elim (λ (e : least ≡ size.pieces). absurd (omega arith)) (λ (e : 0 < times least history.reports). omega arith) w.least_is;
      lowest = λ x p. let a = reported_is x in w.lowest x (omega arith);
      seen_above = All-push (λ (q : PassView). least ≤ q.history.seen) rest last (λ i d l. let s = w.seen in let t = g.seen_above i d l in omega arith) (let s = w.seen in let t = g.seen in omega arith);
      skips_are = let a = g.room in let c = k.room in let f = k.pieces_fit in omega arith;
      above = All-push (λ (q : PassView). IfSome q.lowest_skip (λ i. least < i)) rest last (λ i d l. let s = w.seen in still_above (get_or rest i d).lowest_skip history.seen least (omega arith) (g.above i d l))
          (let s = w.seen in let t = g.seen in still_above last.lowest_skip last.history.seen least (omega arith) k.above);
    }
