use Rattle.std.proofs.Common.{arith}
use Rattle.malformed_lines.proofs.WellFormedSteps.{cut_after, whole_text}
use Rattle.malformed_lines.proofs.well_formed.first_lines.Goals as goal

pub returns-then-text-size-clause-lines : goal.returns-then-text-size-clause-lines
returns-then-text-size-clause-lines c = whole_text c.args.text.now

pub returns-in-Some-clause-lines : goal.returns-in-Some-clause-lines
returns-in-Some-clause-lines c =
    cut_after c.args.text.now c.split_at.result.0.now c.split_at.result.1.now c.args.size c.min-end.result c.in-Some.at (omega arith) (omega arith) c.in-Some.ensures.0.high c.in-Some.ensures.1 c.split_at.ensures.front c.split_at.ensures.back
