use Rattle.std.proofs.Common.{◌≡◌, ◌+◌, ◌≤◌, All, vec_len, vec_capacity}
use Rattle.std.specs.Vec.Iter.{into_iter_items, into_iter_len}
use Rattle.piece_board.specs.Pass.{unused}
use Rattle.piece_pool.proofs.pool.start.Given as goal

abbrev pub invariant-loop-pass : goal.invariant-loop-pass
invariant-loop-pass g l = record {
  count : vec_len l.handles + into_iter_len l.pass-iterator ≡ vec_len l.fn.passes;
  room : vec_len l.fn.passes ≤ vec_capacity l.handles;
  unused : All (λ p. p ≡ unused l.shared.board.now.id l.shared.board.now.pieces) (into_iter_items l.pass-iterator);
  promised : All (λ h. (h.promise.job.value ≡ l.shared.job.now) × (h.promise.board.value ≡ l.shared.board.now)) l.handles.items;
}
