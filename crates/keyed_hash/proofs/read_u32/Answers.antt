use Rattle.core.specs.Hash.FoldHasher.{read_u32}
use Rattle.keyed_hash.proofs.read_u32.Goals as goal

pub returns : goal.returns
unfolding read_u32
returns c = c.from_le_bytes.ensures
