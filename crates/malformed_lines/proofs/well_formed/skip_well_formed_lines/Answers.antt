use Rattle.std.proofs.Common.{◌≡◌, length, arith}
use Rattle.nquads_core.specs.Lines.{lines}
use Rattle.malformed_lines.proofs.WellFormedSteps.{few_lines}
use Rattle.malformed_lines.proofs.well_formed.skip_well_formed_lines.Goals as goal

pub returns-in-Some-2-clause-fewer : goal.returns-in-Some-2-clause-fewer
returns-in-Some-2-clause-fewer c =
    let count : c.in-Some-2.count ≡ length (lines c.in-Some.block.now) = rw c.in-Some-2.is at c.in_ok-count.ensures.count in
    omega (arith, count, few_lines c.in-Some.block.now, c.in-Some.ensures.lengths)
