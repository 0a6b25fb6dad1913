use Rattle.std.proofs.Common.{◌≡◌, map, take}
use Rattle.cluster_parts.proofs.hashed_places.different_hashes.Given as goal

abbrev pub invariant-loop-it : goal.invariant-loop-it
invariant-loop-it l = l.hashes.items ≡ map (λ x. x.hash) (take l.it-index l.places)
