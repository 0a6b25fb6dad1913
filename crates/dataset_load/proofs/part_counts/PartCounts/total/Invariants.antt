use Rattle.std.proofs.Common.{◌≡◌}
use Rattle.quad_index.specs.Parts.{count_in_part, sum_below}
use Rattle.dataset_load.proofs.part_counts.PartCounts.total.Given as goal

abbrev pub invariant-loop-part : goal.invariant-loop-part
invariant-loop-part l = l.quads ≡ sum_below (λ part. count_in_part part l.self.quads.now) l.part
