use Rattle.std.proofs.Common.{◌≢◌, ℕ, ◌<◌, get_or}
use Rattle.line_diagnosis.specs.declared.summary.Summary.{Summary}
use Rattle.malformed_lines.specs.Counts.{reasons_of}
use Rattle.malformed_lines.proofs.reason_counts.ReasonCounts.place_of.Given as goal

abbrev pub invariant-loop-i : goal.invariant-loop-i
invariant-loop-i l = (k : ℕ) (d : Summary) → k < l.i → get_or (reasons_of l.self.counts.items) k d ≢ l.reason
