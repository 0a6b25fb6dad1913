use Rattle.std.proofs.Common.{◌≡◌, ◌++◌, ap, ◌∙◌, subst, arith}
use Rattle.std.specs.Prelude.{All}
use Rattle.piece_board.specs.Pass.{PassView}
use Rattle.piece_board.proofs.TableSteps.{gathers}
use Rattle.piece_board.proofs.ClosingLaws.{all_mid}
use Rattle.piece_board.proofs.board.join_all.Goals as goal

pub join_seat-requires : goal.join_seat-requires
join_seat-requires c = let inv = c.loop-pass.invariant in let all = subst (λ ps. All (λ (p : PassView). p.board ≡ c.args.shared.now.table_id) ps) (inv.1 ∙ ap (λ ps. ps ++ inv.0) c.in-Some.ensures.items) c.requires.passes in
    let sat = inv.2.seats in let one = c.pass.invariant.3.single in let some_seats = c.requires.seat.1 in (
      inv.4 ∙ c.requires.seat.0,
      ap (λ p. p.board) c.pass.view_is ∙ all_mid (λ (p : PassView). p.board ≡ c.args.shared.now.table_id) _ _ inv.0 all,
      c.pass.invariant.0,
      c.requires.words,
      gathers _ _ _ _ _ (omega arith) (omega arith),
    )
