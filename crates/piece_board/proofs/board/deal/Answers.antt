use Rattle.std.proofs.Common.{◌+◌, ◌-◌, sym, ap, refl, subst, arith}
use Rattle.atomic_table.specs.Table.{Splits}
use Rattle.piece_board.specs.Protocol.{fresh}
use Rattle.piece_board.specs.Rule.{KeepsRule, kept_back, dealt}
use Rattle.piece_board.specs.declared.history.History.{History}
use Rattle.piece_board.proofs.TableSteps.{deals}
use Rattle.piece_board.proofs.board.deal.Goals as goal

pub split_seat-other-requires : goal.split_seat-other-requires
split_seat-other-requires c = let more = c.loop-i-test.true in (
  c.loop-i.invariant.table,
  c.requires.size.0,
  subst (λ (r : History). Splits (KeepsRule c.args.shared.now.key) c.loop-i.seat.id r (kept_back r) (dealt r)) (sym (ap (λ m. m.0) c.loop-i.invariant.history))
      (deals c.args.shared.now.key c.loop-i.seat.id (fresh c.args.pieces ((c.args.seats + 1) - c.loop-i.i)) (omega arith) refl),
)
