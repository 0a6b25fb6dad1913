use Rattle.std.proofs.Common.{◌+◌, arith}
use Rattle.nquads_core.proofs.TransferSteps.{Stays-stays}
use Rattle.dataset_load.proofs.LimitSteps.{spent_step}
use Rattle.dataset_load.proofs.RestSteps.{stopped_here}
use Rattle.dataset_load.proofs.rest.list_rounds.Goals as goal

pub loop-preserved : goal.loop-preserved
loop-preserved g c =
    let was = c.loop.invariant in
    let next = c.in-Ok-Some.ensures in
    record {
      few = rw c.in-Ok-Some.field-0-is at next.few;
      state = rw c.in-Ok-Some.field-0-is at next.reading;
      countable = omega (arith, was.countable, next.counted);
      read = λ start n h. (rw c.in-Ok-Some.field-0-is at (next.listed n)) start (was.read start n h);
      spent = λ start h.
          spent_step c.loop.counter (c.loop.counter + 1) start _ _ _ _ c.loop.round c.in-Ok-Some.next (omega arith) (was.spent start h).0 (rw c.in-Ok-Some.field-0-is at next.spent);
      failures = Stays-stays _ _ _ was.failures next.count;
    }

pub returns-clause-stopped : goal.returns-clause-stopped
returns-clause-stopped g c = λ start n was. stopped_here n _ _ _ _ start (c.loop.invariant.read start n was)

pub returns-clause-count : goal.returns-clause-count
returns-clause-count g c = c.loop.invariant.failures
