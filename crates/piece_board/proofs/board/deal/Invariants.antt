use Rattle.std.proofs.Common.{◌≡◌, ◌+◌, ◌-◌, [], vec_len}
use Rattle.std.specs.Prelude.{All}
use Rattle.piece_board.specs.Protocol.{fresh}
use Rattle.piece_board.specs.Pass.{unused}
use Rattle.piece_board.proofs.board.deal.Given as goal

abbrev pub invariant-loop-i : goal.invariant-loop-i
invariant-loop-i l = record {
  table : l.seat.table_id ≡ l.shared.table_id;
  history : l.seat.me ≡ (fresh l.pieces ((l.seats + 1) - l.i), []);
  dealt : vec_len l.passes + 1 ≡ l.i;
  unused : All (λ p. p ≡ unused l.shared.table_id l.pieces) l.passes.items;
}
