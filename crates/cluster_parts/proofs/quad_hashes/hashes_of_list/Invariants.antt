use Rattle.std.proofs.Common.{◌≡◌, map, take}
use Rattle.cluster_parts.specs.Numbered.{hash_by_numbers}
use Rattle.cluster_parts.proofs.quad_hashes.hashes_of_list.Given as goal

abbrev pub invariant-loop-place : goal.invariant-loop-place
invariant-loop-place l = l.hashes.items ≡ map (hash_by_numbers l.terms) (take l.place l.quads)
