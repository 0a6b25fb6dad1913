use Rattle.std.proofs.Common.{◌≡◌, map, take, Some, None, nat_eq, if◌then◌else◌}
use Rattle.indexmap.specs.IndexSet.{contains}
use Rattle.cluster_parts.proofs.again.keys_among.Given as goal

abbrev pub invariant-loop-hash : goal.invariant-loop-hash
invariant-loop-hash l = l.keys.items ≡ map (λ h. if contains nat_eq l.set h then Some h else None) (take l.hash-index l.quad_hashes)
