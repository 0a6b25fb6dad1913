use Rattle.std.proofs.Common.{arith, refl}
use Rattle.piece_pool.proofs.WorkerSteps.{drawn_piece, skipped_piece, stopped_worker}
use Rattle.piece_pool.proofs.worker.next_piece.Goals as goal

pub run_piece-requires : goal.run_piece-requires
run_piece-requires g c = record {
  drawn = drawn_piece (g.J.Job.answers c.args.job.now) (g.J.Job.faults c.args.job.now) c.args.board.now c.in-Some.i c.args.worked.now.outs.items c.args.worked.now.faults.items
      c.args.worked.now.pass c.draw.new.pass c.least.new.pass c.least.result c.in-Some.ensures.event c.least.ensures.event c.least.ensures.falls c.least.ensures.of_board c.requires.underway;
}

pub returns-then-least-i-clause-underway : goal.returns-then-least-i-clause-underway
returns-then-least-i-clause-underway g c = λ _.
    skipped_piece (g.J.Job.answers c.args.job.now) (g.J.Job.faults c.args.job.now) c.args.board.now c.in-Some.i c.args.worked.now.outs.items c.args.worked.now.faults.items
    c.least.new.pass (drawn_piece (g.J.Job.answers c.args.job.now) (g.J.Job.faults c.args.job.now) c.args.board.now c.in-Some.i c.args.worked.now.outs.items c.args.worked.now.faults.items
    c.args.worked.now.pass c.draw.new.pass c.least.new.pass c.least.result c.in-Some.ensures.event c.least.ensures.event c.least.ensures.falls c.least.ensures.of_board c.requires.underway)
    c.skip.new.self c.skip.ensures.same (omega (arith, c.least.ensures.seen, c.if-least-i.true))

pub returns-in_default-run_piece-clause-worked : goal.returns-in_default-run_piece-clause-worked
returns-in_default-run_piece-clause-worked g c = λ _.
    stopped_worker (g.J.Job.answers c.args.job.now) (g.J.Job.faults c.args.job.now) c.args.board.now c.in-Some.i c.args.worked.now.outs.items c.args.worked.now.faults.items
    c.least.new.pass (drawn_piece (g.J.Job.answers c.args.job.now) (g.J.Job.faults c.args.job.now) c.args.board.now c.in-Some.i c.args.worked.now.outs.items c.args.worked.now.faults.items
    c.args.worked.now.pass c.draw.new.pass c.least.new.pass c.least.result c.in-Some.ensures.event c.least.ensures.event c.least.ensures.falls c.least.ensures.of_board c.requires.underway)
    _ refl c.in_default-run_piece.ensures.unchanged
