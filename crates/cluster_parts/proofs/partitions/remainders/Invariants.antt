use Rattle.std.proofs.Common.{◌≡◌, length, take}
use Rattle.cluster_parts.specs.Keys.{remainders}
use Rattle.cluster_parts.proofs.partitions.remainders.Given as goal

abbrev pub invariant-loop-hash : goal.invariant-loop-hash
invariant-loop-hash l = (l.parts.items ≡ remainders l.partitions (take l.hash-index l.hashes)) × (length l.parts.items ≡ l.hash-index)
