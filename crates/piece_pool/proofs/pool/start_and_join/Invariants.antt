use Rattle.std.proofs.Common.{◌≡◌, ◌+◌, ◌≤◌, All, vec_len, vec_capacity}
use Rattle.std.specs.Vec.Iter.{into_iter_items, into_iter_len}
use Rattle.piece_pool.specs.Worked.{IsWorked}
use Rattle.piece_pool.proofs.pool.start_and_join.Given as goal

abbrev pub invariant-loop-handle : goal.invariant-loop-handle
invariant-loop-handle g l = record {
  count : vec_len l.works + into_iter_len l.handle-iterator ≤ l.count;
  room : l.count ≤ vec_capacity l.works;
  promised : All (λ h. (h.promise.job.value ≡ l.shared.job.now) × (h.promise.board.value ≡ l.shared.board.now)) (into_iter_items l.handle-iterator);
  worked : All (IsWorked (g.J.Job.answers l.shared.job.now) (g.J.Job.faults l.shared.job.now) l.shared.board.now) l.works.items;
}
