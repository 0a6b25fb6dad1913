use Rattle.std.proofs.Common.{◌≡◌, map, take}
use Rattle.cluster_parts.specs.Hash.{hash}
use Rattle.cluster_parts.proofs.hashing.text_hashes.Given as goal

abbrev pub invariant-loop-n : goal.invariant-loop-n
invariant-loop-n l = l.hashes.items ≡ map hash (take l.n l.texts.texts)
