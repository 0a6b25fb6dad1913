use Rattle.core.specs.Hash.FoldHasher.{read_u64}
use Rattle.keyed_hash.proofs.read_u64.Goals as goal

pub returns : goal.returns
unfolding read_u64
returns c = rw (c.read_u32.ensures, c.read_u32-2.ensures)
