use Rattle.std.proofs.Common.{◌≡◌, ◌+◌, All, false, vec_len}
use Rattle.std.specs.Vec.Iter.{into_iter_items, into_iter_len}
use Rattle.piece_pool.specs.Worked.{IsWorked}
use Rattle.piece_pool.specs.Collected.{IsCollected}
use Rattle.piece_pool.proofs.collector.collect.Given as goal

abbrev pub invariant-loop-worked : goal.invariant-loop-worked
invariant-loop-worked g l = record {
  count : vec_len l.all.passes + into_iter_len l.worked-iterator ≡ vec_len l.fn.works;
  rest : All (IsWorked (g.J.Job.answers l.job) (g.J.Job.faults l.job) l.board) (into_iter_items l.worked-iterator);
  stopped : All (λ w. w.stopped ≡ false) (into_iter_items l.worked-iterator) → All (λ w. w.stopped ≡ false) l.fn.works.items;
  collected : IsCollected (g.J.Job.answers l.job) (g.J.Job.faults l.job) l.board l.all.passes.items l.all.outs.items l.all.faults.items;
}
