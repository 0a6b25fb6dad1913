use Rattle.std.proofs.Common.{rules, arith, suc, ap, length}
use Rattle.std.proofs.lemmas.List.Elements.{All-nil, All-push}
use Rattle.piece_pool.specs.Worked.{IsWorked}
use Rattle.piece_pool.proofs.pool.start_and_join.Goals as goal

pub loop-handle-preserved : goal.loop-handle-preserved
loop-handle-preserved g c =
    let steps = c.in-Some.ensures.steps in
    let was = c.loop-handle.invariant in
    let all = rw steps.0 at was.promised in
    let here = all 0 c.in-Some.handle (omega arith) in record {
      count = search rules;
      room = search rules;
      promised = λ k d below. all (suc k) d (omega arith);
      worked = rw c.push_reserved.ensures.items (All-push (IsWorked (g.J.Job.answers c.args.shared.now.job.now) (g.J.Job.faults c.args.shared.now.job.now) c.args.shared.now.board.now) _ _ was.worked (rw (here.0, here.1) at c.join.ensures));
    }

pub loop-handle-init : goal.loop-handle-init
loop-handle-init g c =
    let started = c.in-Ok.ensures in
    let items = c.into_iter-handle-iterator.ensures.into_iter_gives.0 in record {
      count = omega (arith, ap length started.none, c.into_iter-handle-iterator.result.rest.ok.0, ap length items, c.in-Ok.handles.ok.0, started.most, c.len-count.ensures);
      room = omega (arith, started.room, c.len-count.ensures);
      promised = rw items started.promised;
      worked = rw started.none (All-nil (IsWorked (g.J.Job.answers c.args.shared.now.job.now) (g.J.Job.faults c.args.shared.now.job.now) c.args.shared.now.board.now));
    }
