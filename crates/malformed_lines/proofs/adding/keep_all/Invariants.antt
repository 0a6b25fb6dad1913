use Rattle.malformed_lines.proofs.AddingSteps.{IsKeptUpTo}
use Rattle.malformed_lines.proofs.adding.keep_all.Given as goal

abbrev pub invariant-loop-line : goal.invariant-loop-line
invariant-loop-line l = IsKeptUpTo l.before l.piece l.fn.shown.items l.shown.items l.line-index
