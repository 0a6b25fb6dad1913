use Rattle.std.proofs.Common.{◌≡◌, ◌<◌, ℕ, [], length, get_or}
use Rattle.cluster_parts.specs.Known.{texts_of}
use Rattle.cluster_parts.proofs.keeping.are_taken.Given as goal

abbrev pub invariant-loop-n : goal.invariant-loop-n
invariant-loop-n l = (m : ℕ) → m < l.n → length (get_or (texts_of l.marks) m []) ≡ get_or l.taken m 0
