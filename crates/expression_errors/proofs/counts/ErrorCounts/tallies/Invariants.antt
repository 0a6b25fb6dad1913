use Rattle.std.proofs.Common.{◌<◌, All}
use Rattle.expression_errors.proofs.counts.ErrorCounts.tallies.Given as goal

abbrev pub invariant-loop-counter : goal.invariant-loop-counter
invariant-loop-counter l = All (λ tally. 0 < tally.rows) l.tallies.items
