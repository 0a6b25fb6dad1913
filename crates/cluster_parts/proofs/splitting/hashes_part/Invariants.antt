use Rattle.std.proofs.Common.{◌≡◌, take}
use Rattle.cluster_parts.specs.Parts.{hashes_in}
use Rattle.cluster_parts.proofs.splitting.hashes_part.Given as goal

abbrev pub invariant-loop-i : goal.invariant-loop-i
invariant-loop-i l = l.chosen.items ≡ hashes_in l.partitions l.number (take l.i l.hashes)
