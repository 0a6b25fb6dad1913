use Rattle.std.proofs.Common.{◌+◌, ◌∙◌, refl, rules, arith, inr}
use Rattle.nquads_core.proofs.TransferSteps.{Stays-stays}
use Rattle.dataset_load.specs.Rounds.{HasRead}
use Rattle.dataset_load.proofs.LimitSteps.{long_start, spent_in, spent_step, too_long}
use Rattle.dataset_load.proofs.StreamingSteps.{ahead, part_so_far}
use Rattle.dataset_load.proofs.streaming.number_rounds.Goals as goal

pub loop-init : goal.loop-init
loop-init g c =
    let first = ahead (HasRead c.args.so_far.now) _ _ _ _ _ _ c.requires.start c.in-Ok.ensures.round in
    record {
      state = search rules;
      countable = omega (arith, c.requires.none);
      read = first;
      spent = λ is. spent_in _ _ _ _ (first.more is).1;
      long = long_start _;
      filter = refl;
      failures = search rules;
    }

pub loop-preserved : goal.loop-preserved
loop-preserved g c =
    let was = c.loop.invariant in
    let next = c.in-Ok-Some.ensures in
    let spent = spent_step c.loop.counter (c.loop.counter + 1) _ _ _ _ _ c.loop.round c.in-Ok-Some.next (omega arith) was.spent (rw c.in-Ok-Some.field-0-is at next.spent) in
    record {
      state = rw c.in-Ok-Some.field-0-is at next.reading;
      countable = omega (arith, was.countable, next.counted);
      read = (rw c.in-Ok-Some.field-0-is at next.read) _ was.read;
      spent = spent.0;
      long = spent.1;
      filter = next.filter ∙ was.filter;
      failures = Stays-stays _ _ _ was.failures next.count;
    }

pub returns-clause-taken : goal.returns-clause-taken
returns-clause-taken g c = part_so_far (HasRead c.loop.so_far) _ _ _ _ c.loop.invariant.read

pub returns-clause-count : goal.returns-clause-count
returns-clause-count g c = c.loop.invariant.failures

pub returns-clause-cause : goal.returns-clause-cause
returns-clause-cause g c = inr (too_long _ _ (search rules) c.loop.invariant.long)
