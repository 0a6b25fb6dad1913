use Rattle.std.proofs.Common.{◌≡◌, ◌%◌, map, take}
use Rattle.std.specs.Option.{option_map}
use Rattle.cluster_parts.specs.Keys.{key_by_numbers}
use Rattle.cluster_parts.proofs.key_splits.reduced_keys.Given as goal

abbrev pub invariant-loop-quad : goal.invariant-loop-quad
invariant-loop-quad l = l.made.items ≡ map (λ q. option_map (λ h. h % l.partitions) (key_by_numbers l.key l.hashes q)) (take l.quad-index l.quads)
