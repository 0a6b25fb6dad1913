use Rattle.std.proofs.Common.{◌<◌, All}
use Rattle.expression_errors.proofs.counts.push_tallies.Given as goal

abbrev pub invariant-loop-filter : goal.invariant-loop-filter
invariant-loop-filter l = All (λ tally. 0 < tally.rows) l.tallies.items
