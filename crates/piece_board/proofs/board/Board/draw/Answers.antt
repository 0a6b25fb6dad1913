use Rattle.std.proofs.Common.{length, ◌+◌, ◌≡◌, ◌≤◌, sym, ap, ◌∙◌, subst, arith, ltb}
use Rattle.std.specs.Prelude.{Some, None}
use Rattle.std.proofs.lemmas.Bool.{lt-ltb}
use Rattle.piece_board.specs.Protocol.{with_draw, with_end}
use Rattle.piece_board.specs.Rule.{DrawsOnce}
use Rattle.piece_board.specs.Pass.{PassView, PassFacts, with_history}
use Rattle.piece_board.specs.contracts.pass.Pass.{the_view}
use Rattle.piece_board.proofs.TableSteps.{draws_allowed}
use Rattle.piece_board.proofs.LengthLaws.{length_few}
use Rattle.piece_board.proofs.PassLaws.{draw_below, draw_above, draw_kept, end_kept, same_pass}
use Rattle.piece_board.proofs.board.Board.draw.Goals as goal

pub fetch_add-found-requires : goal.fetch_add-found-requires
fetch_add-found-requires c = let live = c.pass.invariant.3.single in let words = c.self.invariant.0 in (
  ap (λ p. p.board) c.pass.view_is ∙ (c.requires.of_board.0 ∙ sym (ap (λ b. b.id) c.self.view_is)),
  omega arith,
  draws_allowed _ _ _ _ (omega arith) (ap (λ p. p.history.finished) c.pass.view_is ∙ c.requires.unfinished),
)

pub invariant_of-pass : goal.invariant_of-pass
invariant_of-pass c = let old = c.pass.inside in let step = c.fetch_add-found.ensures in let i = c.fetch_add-found.result in let q : PassView = the_view old in
    let pieces : q.history.pieces ≡ c.self.inside.pieces = ap (λ p. p.history.pieces) c.pass.view_is ∙ (c.requires.of_board.1 ∙ sym (ap (λ b. b.pieces) c.self.view_is)) in
    let history : c.fetch_add-found.new.seat.me.0 ≡ with_draw i q.history = ap (λ m. m.0) step.2.0 ∙ draw_below i q.history (let below = c.if-found-self.true in omega arith) in (
      ap (λ m. m.1) step.2.0 ∙ c.pass.invariant.0,
      c.pass.invariant.1 ∙ sym (ap (λ r. r.seen) history),
      c.pass.invariant.2 ∙ sym (ap (λ r. ltb 0 r.finished) history),
      subst PassFacts (sym (same_pass q c.fetch_add-found.new.seat.table_id c.fetch_add-found.new.seat.me.0 (with_draw i q.history) (Some i) step.0 history)) (draw_kept q c.pass.invariant.3 i (ap (λ p. p.history.finished) c.pass.view_is ∙ c.requires.unfinished) (subst DrawsOnce history step.2.1)),
    )

pub invariant_of-pass-else-found-self : goal.invariant_of-pass-else-found-self
invariant_of-pass-else-found-self c = let old = c.pass.inside in let step = c.fetch_add-found.ensures in let i = c.fetch_add-found.result in let q : PassView = the_view old in
    let pieces : q.history.pieces ≡ c.self.inside.pieces = ap (λ p. p.history.pieces) c.pass.view_is ∙ (c.requires.of_board.1 ∙ sym (ap (λ b. b.pieces) c.self.view_is)) in
    let history : c.fetch_add-found.new.seat.me.0 ≡ with_end q.history = ap (λ m. m.0) step.2.0 ∙ draw_above i q.history (let above = c.if-found-self.false in omega arith) in (
      ap (λ m. m.1) step.2.0 ∙ c.pass.invariant.0,
      c.pass.invariant.1 ∙ sym (ap (λ r. r.seen) history),
      sym (ap (λ r. ltb 0 r.finished) history ∙ lt-ltb 0 (q.history.finished + 1) (omega arith)),
      subst PassFacts (sym (same_pass q c.fetch_add-found.new.seat.table_id c.fetch_add-found.new.seat.me.0 (with_end q.history) None step.0 history)) (end_kept q c.pass.invariant.3),
    )

pub returns-then-found-self-clause-event : goal.returns-then-found-self-clause-event
returns-then-found-self-clause-event c = let step = c.fetch_add-found.ensures in let i = c.fetch_add-found.result in let q : PassView = the_view c.pass.inside in
    let pieces : q.history.pieces ≡ c.self.inside.pieces = ap (λ p. p.history.pieces) c.pass.view_is ∙ (c.requires.of_board.1 ∙ sym (ap (λ b. b.pieces) c.self.view_is)) in
    let history : c.fetch_add-found.new.seat.me.0 ≡ with_draw i q.history = ap (λ m. m.0) step.2.0 ∙ draw_below i q.history (let below = c.if-found-self.true in omega arith) in
    same_pass q c.fetch_add-found.new.seat.table_id c.fetch_add-found.new.seat.me.0 (with_draw i q.history) (Some i) step.0 history ∙ ap (λ p. with_history p (with_draw i p.history) (Some i)) c.pass.view_is

pub returns-else-found-self-clause-event : goal.returns-else-found-self-clause-event
returns-else-found-self-clause-event c = let old = c.pass.inside in let step = c.fetch_add-found.ensures in let i = c.fetch_add-found.result in let q : PassView = the_view old in
    let pieces : q.history.pieces ≡ c.self.inside.pieces = ap (λ p. p.history.pieces) c.pass.view_is ∙ (c.requires.of_board.1 ∙ sym (ap (λ b. b.pieces) c.self.view_is)) in
    let history : c.fetch_add-found.new.seat.me.0 ≡ with_end q.history = ap (λ m. m.0) step.2.0 ∙ draw_above i q.history (let above = c.if-found-self.false in omega arith) in
    same_pass q c.fetch_add-found.new.seat.table_id c.fetch_add-found.new.seat.me.0 (with_end q.history) None step.0 history ∙ ap (λ p. with_history p (with_end p.history) None) c.pass.view_is

pub returns-then-found-self-clause-once : goal.returns-then-found-self-clause-once
returns-then-found-self-clause-once c = c.fetch_add-found.ensures.2.1

pub returns-then-found-self-clause-room : goal.returns-then-found-self-clause-room
returns-then-found-self-clause-room c = let step = c.fetch_add-found.ensures in let i = c.fetch_add-found.result in let q : PassView = the_view c.pass.inside in
    let new = c.fetch_add-found.new.seat.me.0 in
    let same = ap (λ p. p.history.pieces) c.pass.view_is ∙ (c.requires.of_board.1 ∙ sym (ap (λ b. b.pieces) c.self.view_is)) in let mine = ap (λ b. b.pieces) c.self.view_is in
    let history : new ≡ with_draw i q.history = ap (λ m. m.0) step.2.0 ∙ draw_below i q.history (let below = c.if-found-self.true in omega arith) in
    let pieces : new.pieces ≡ q.history.pieces = ap (λ r. r.pieces) history in
    let few : length new.draws ≤ new.pieces = length_few new.pieces new.draws step.2.1 in omega arith

pub returns-else-found-self-clause-once : goal.returns-else-found-self-clause-once
returns-else-found-self-clause-once c = c.fetch_add-found.ensures.2.1

pub returns-else-found-self-clause-room : goal.returns-else-found-self-clause-room
returns-else-found-self-clause-room c = let step = c.fetch_add-found.ensures in let i = c.fetch_add-found.result in let q : PassView = the_view c.pass.inside in
    let new = c.fetch_add-found.new.seat.me.0 in
    let same = ap (λ p. p.history.pieces) c.pass.view_is ∙ (c.requires.of_board.1 ∙ sym (ap (λ b. b.pieces) c.self.view_is)) in let mine = ap (λ b. b.pieces) c.self.view_is in
    let history : new ≡ with_end q.history = ap (λ m. m.0) step.2.0 ∙ draw_above i q.history (let above = c.if-found-self.false in omega arith) in
    let pieces : new.pieces ≡ q.history.pieces = ap (λ r. r.pieces) history in
    let few : length new.draws ≤ new.pieces = length_few new.pieces new.draws step.2.1 in omega arith
