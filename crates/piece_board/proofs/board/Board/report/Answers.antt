use Rattle.std.proofs.Common.{◌≡◌, sym, ap, ◌∙◌, subst, arith, ltb}
use Rattle.std.specs.Prelude.{None, IfSome}
use Rattle.piece_board.specs.Counts.{times}
use Rattle.piece_board.specs.Protocol.{IsLast, with_report}
use Rattle.piece_board.specs.Pass.{PassView, PassFacts}
use Rattle.piece_board.specs.contracts.pass.Pass.{the_view}
use Rattle.piece_board.proofs.TableSteps.{reports_allowed}
use Rattle.piece_board.proofs.PassLaws.{last_occurs, report_kept, same_pass}
use Rattle.piece_board.proofs.board.Board.report.Goals as goal

pub fetch_min-requires : goal.fetch_min-requires
fetch_min-requires c = let live = c.pass.invariant.3.single in let words = c.self.invariant.0 in let i = c.args.i in let q : PassView = the_view c.pass.inside in
    let mine = subst (λ o. IfSome o (λ x. IsLast x q.history.draws × (times x q.history.reports ≡ 0) × (q.history.finished ≡ 0))) (ap (λ p. p.last) c.pass.view_is ∙ c.requires.last) c.pass.invariant.3.last_is in (
      ap (λ p. p.board) c.pass.view_is ∙ (c.requires.of_board.0 ∙ sym (ap (λ b. b.id) c.self.view_is)),
      omega arith,
      reports_allowed _ _ _ _ i (omega arith) (last_occurs i q.history.draws mine.0) mine.1,
    )

pub invariant_of-pass : goal.invariant_of-pass
invariant_of-pass c = let step = c.fetch_min.ensures in let i = c.args.i in let q : PassView = the_view c.pass.inside in
    let mine = subst (λ o. IfSome o (λ x. IsLast x q.history.draws × (times x q.history.reports ≡ 0) × (q.history.finished ≡ 0))) (ap (λ p. p.last) c.pass.view_is ∙ c.requires.last) c.pass.invariant.3.last_is in
    let history : c.fetch_min.new.seat.me.0 ≡ with_report i q.history = ap (λ m. m.0) step.2 in (
      ap (λ m. m.1) step.2 ∙ c.pass.invariant.0,
      c.pass.invariant.1 ∙ sym (ap (λ r. r.seen) history),
      c.pass.invariant.2 ∙ sym (ap (λ r. ltb 0 r.finished) history),
      subst PassFacts (sym (same_pass q c.fetch_min.new.seat.table_id c.fetch_min.new.seat.me.0 (with_report i q.history) None step.0 history)) (report_kept q c.pass.invariant.3 i (last_occurs i q.history.draws mine.0) mine.1),
    )
