use Rattle.std.proofs.Common.{◌≡◌, map, take}
use Rattle.cluster_parts.specs.Numbered.{hash_by_numbers}
use Rattle.cluster_parts.proofs.quad_hashes.hashes_of_quads.Given as goal

abbrev pub invariant-loop-quad : goal.invariant-loop-quad
invariant-loop-quad l = l.hashes.items ≡ map (hash_by_numbers l.terms) (take l.quad-index l.quads)
