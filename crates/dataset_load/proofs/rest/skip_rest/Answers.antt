use Rattle.nquads_core.proofs.TransferSteps.{Stays-stays}
use Rattle.std.proofs.Common.{◌+◌, arith}
use Rattle.dataset_load.proofs.LimitSteps.{one_more, spent_read, too_long_read}
use Rattle.dataset_load.proofs.StreamingSteps.{part_more}
use Rattle.dataset_load.proofs.rest.skip_rest.Goals as goal

pub returns-in-Ok-eq0-clause-part : goal.returns-in-Ok-eq0-clause-part
returns-in-Ok-eq0-clause-part g c = part_more _ _ _ _ c.loop.invariant.part c.in-Ok-eq0.ensures.bytes.0

pub returns-in-Ok-eq0-clause-count : goal.returns-in-Ok-eq0-clause-count
returns-in-Ok-eq0-clause-count g c = Stays-stays _ _ _ c.loop.invariant.failures c.in-Ok-eq0.ensures.count

pub loop-preserved : goal.loop-preserved
loop-preserved g c = record {
  part = part_more _ _ _ _ c.loop.invariant.part c.in-Ok.ensures.bytes.0;
  spent = spent_read c.loop.counter (c.loop.counter + 1) _ _ _ _ c.loop.invariant.spent c.in-Ok.ensures.bytes.0 (one_more _ _ _ c.in-Ok.ensures.bound (omega arith));
  failures = Stays-stays _ _ _ c.loop.invariant.failures c.in-Ok.ensures.count;
}

pub returns-clause-limit : goal.returns-clause-limit
returns-clause-limit g c = λ _. too_long_read c.loop.counter _ _ (omega arith) c.loop.invariant.spent
