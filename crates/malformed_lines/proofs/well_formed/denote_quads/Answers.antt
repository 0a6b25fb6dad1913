use Rattle.std.proofs.Common.{arith}
use Rattle.malformed_lines.proofs.WellFormedSteps.{denote_more}
use Rattle.malformed_lines.proofs.well_formed.denote_quads.Goals as goal

pub loop-raw-preserved : goal.loop-raw-preserved
loop-raw-preserved c = denote_more c.args.raws.now c.loop-raw.raw-index _ (omega arith) c.loop-raw.invariant (c.in_ok-denotes_quad.ensures.quad c.if-not-branch.false)
