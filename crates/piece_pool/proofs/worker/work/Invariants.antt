use Rattle.std.proofs.Common.{◌-◌, length}
use Rattle.piece_pool.specs.Worked.{IsUnderway}
use Rattle.piece_pool.proofs.worker.work.Given as goal

abbrev pub invariant-loop-alloc : goal.invariant-loop-alloc
invariant-loop-alloc g l =
    IsUnderway (g.J.Job.answers l.job) (g.J.Job.faults l.job) l.board l.worked.pass l.worked.outs.items l.worked.faults.items

abbrev pub decreases-loop-alloc : goal.decreases-loop-alloc
decreases-loop-alloc g l = l.board.pieces - length l.worked.pass.history.draws
