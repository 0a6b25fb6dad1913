use Rattle.std.proofs.Common.{◌<◌, All}
use Rattle.expression_errors.proofs.counts.push_part.Given as goal

abbrev pub invariant-loop-place : goal.invariant-loop-place
invariant-loop-place l = All (λ tally. 0 < tally.rows) l.tallies.items
