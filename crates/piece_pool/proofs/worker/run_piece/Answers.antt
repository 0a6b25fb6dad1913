use Rattle.piece_pool.proofs.WorkerSteps.{fault_added, output_added}
use Rattle.piece_pool.proofs.worker.run_piece.Goals as goal

pub returns-in_ok-push-in-Ok-clause-underway : goal.returns-in_ok-push-in-Ok-clause-underway
returns-in_ok-push-in-Ok-clause-underway g c =
    output_added (g.J.Job.answers c.args.job.now) (g.J.Job.faults c.args.job.now) c.args.board.now c.args.i c.args.worked.now.outs.items c.args.worked.now.faults.items
    c.args.worked.now.pass c.requires.drawn c.in-Ok.out c.push.new.self.items c.in_ok-push-in-Ok.ensures.items c.in-Ok.ensures.answers

pub returns-in_ok-push-in-Err-Own-clause-underway : goal.returns-in_ok-push-in-Err-Own-clause-underway
returns-in_ok-push-in-Err-Own-clause-underway g c =
    fault_added (g.J.Job.answers c.args.job.now) (g.J.Job.faults c.args.job.now) c.args.board.now c.args.i c.args.worked.now.outs.items c.args.worked.now.faults.items
    c.args.worked.now.pass c.requires.drawn c.in-Err-Own.fault c.push-in-Err-Own.new.self.items c.report.new.pass c.in_ok-push-in-Err-Own.ensures.items c.report.ensures.event (rw c.in-Err-Own.field-0-is at c.in-Err-Own.ensures.faults)
