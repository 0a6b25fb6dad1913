use Rattle.std.proofs.Common.{arith}
use Rattle.cluster_parts.specs.Hash.{hash}
use Rattle.cluster_parts.proofs.hashing.hash_of.Goals as goal

pub returns : goal.returns
unfolding hash
returns c = grind (arith, c.finish.ensures, c.write.ensures, c.default-hasher.ensures)
