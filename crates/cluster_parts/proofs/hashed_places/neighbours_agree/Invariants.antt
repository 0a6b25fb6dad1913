use Rattle.std.proofs.Common.{ℕ, ◌+◌, ◌<◌, get_or}
use Rattle.cluster_parts.specs.declared.hashed_places.HashedPlace.{HashedPlace}
use Rattle.cluster_parts.specs.Numbered.{Agree}
use Rattle.cluster_parts.proofs.hashed_places.neighbours_agree.Given as goal

abbrev pub invariant-loop-i : goal.invariant-loop-i
invariant-loop-i l = (k : ℕ) (d : HashedPlace) → k + 1 < l.i → Agree l.quads (get_or l.places k d) (get_or l.places (k + 1) d)
