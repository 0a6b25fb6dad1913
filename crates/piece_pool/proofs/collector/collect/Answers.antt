use Rattle.std.proofs.Common.{rules, arith, suc, ap, length}
use Rattle.piece_pool.proofs.CollectorSteps.{IsCollected-none, unstopped-more}
use Rattle.piece_pool.proofs.collector.collect.Goals as goal

pub add_work-requires : goal.add_work-requires
add_work-requires g c =
    let steps = c.in-Some.ensures.steps in
    let was = c.loop-worked.invariant in
    let all = rw steps.0 at was.rest in record {
      work = all 0 c.in-Some.worked (omega arith);
      collected = was.collected;
    }

pub loop-worked-preserved : goal.loop-worked-preserved
loop-worked-preserved g c =
    let was = c.loop-worked.invariant in
    let steps = c.in-Some.ensures.steps in
    let all = rw steps.0 at was.rest in
    let added = c.in_ok-add_work.ensures in record {
      count = search rules;
      rest = λ k d below. all (suc k) d (omega arith);
      stopped = λ h. was.stopped (rw steps.0 (unstopped-more c.in-Some.worked _ added.stopped h));
      collected = added.collected;
    }

pub loop-worked-init : goal.loop-worked-init
loop-worked-init g c =
    let made = c.in_ok-with_capacity.ensures in
    let items = c.into_iter-worked-iterator.ensures.into_iter_gives.0 in record {
      count = omega (arith, made.len, c.into_iter-worked-iterator.result.rest.ok.0, ap length items, c.args.works.ok.0);
      rest = rw items c.requires.works;
      stopped = λ h. rw items at h;
      collected = rw (made.items, c.new.ensures.items, c.new-2.ensures.items) (IsCollected-none _ _ c.args.board.now);
    }

pub returns : goal.returns
returns g c =
    let was = c.loop-worked.invariant in
    let left = c.loop-worked.worked-iterator.rest.ok.0 in
    let none = c.in-None.ensures.steps.0 in record {
      some = omega (arith, c.seats.ensures.some);
      stopped = was.stopped (λ k d low. absurd (omega (arith, low, left, none)));
      count = omega (arith, was.count, none);
      collected = was.collected;
    }
