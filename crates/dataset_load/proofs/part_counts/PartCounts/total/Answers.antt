use Rattle.std.proofs.Common.{arith}
use Rattle.dataset_load.proofs.PartCountSteps.{part_fits}
use Rattle.dataset_load.proofs.part_counts.PartCounts.total.Goals as goal

pub overflow_add-quads-in-loop-part : goal.overflow_add-quads-in-loop-part
overflow_add-quads-in-loop-part c =
    let fits = part_fits c.args.self.now.quads.now c.args.counts.now c.requires.counts c.loop-part.part c.loop-part.quads (omega (arith, c.loop-part-test.true)) c.loop-part.invariant in
    omega (arith, fits, c.len-few.ensures.value)
