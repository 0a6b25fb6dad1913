use Rattle.std.proofs.Common.{◌≡◌, ◌+◌, ◌-◌, ◌≤◌, length, drop}
use Rattle.sparql_grammar.specs.Values.{colon_at}
use Rattle.sparql_read.proofs.prologue.prefix_of.Given as goal

abbrev pub invariant-loop-end : goal.invariant-loop-end
invariant-loop-end l = (l.end + colon_at (drop l.end l.name) ≡ colon_at l.name) × (l.end ≤ length l.name)

abbrev pub decreases-loop-end : goal.decreases-loop-end
decreases-loop-end l = length l.name - l.end
