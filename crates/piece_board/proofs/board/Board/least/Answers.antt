use Rattle.std.proofs.Common.{◌≡◌, ◌<◌, sym, ap, ◌∙◌, subst, arith, ltb}
use Rattle.piece_board.specs.Counts.{times}
use Rattle.piece_board.specs.Protocol.{with_seen}
use Rattle.piece_board.specs.Pass.{PassView, PassFacts}
use Rattle.piece_board.specs.contracts.pass.Pass.{the_view}
use Rattle.piece_board.proofs.TableSteps.{looks_allowed}
use Rattle.piece_board.proofs.PassLaws.{look_kept, same_pass}
use Rattle.piece_board.proofs.board.Board.least.Goals as goal

pub load-found-requires : goal.load-found-requires
load-found-requires c = let live = c.pass.invariant.3.single in let words = c.self.invariant.0 in (
  ap (λ p. p.board) c.pass.view_is ∙ (c.requires.of_board.0 ∙ sym (ap (λ b. b.id) c.self.view_is)),
  omega arith,
  looks_allowed _ _ _ _ (omega arith),
)

pub invariant_of-pass : goal.invariant_of-pass
invariant_of-pass c = let step = c.load-found.ensures in let i = c.load-found.result in let q : PassView = the_view c.pass.inside in
    let history : c.load-found.new.seat.me.0 ≡ with_seen i q.history = ap (λ m. m.0) step.2.0 in (
      ap (λ m. m.1) step.2.0 ∙ c.pass.invariant.0,
      sym (ap (λ r. r.seen) history),
      c.pass.invariant.2 ∙ sym (ap (λ r. ltb 0 r.finished) history),
      subst PassFacts (sym (same_pass q c.load-found.new.seat.table_id c.load-found.new.seat.me.0 (with_seen i q.history) q.last step.0 history)) (look_kept q c.pass.invariant.3 i step.2.1),
    )

pub returns-clause-own : goal.returns-clause-own
returns-clause-own c = λ x p. c.load-found.ensures.2.3 x (subst (λ q. 0 < times x q.history.reports) (sym c.pass.view_is) p)
