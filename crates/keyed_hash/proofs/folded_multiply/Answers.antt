use Rattle.std.proofs.Common.{refl}
use Rattle.core.specs.Hash.FoldHasher.{folded_multiply}
use Rattle.keyed_hash.proofs.folded_multiply.Goals as goal

pub returns : goal.returns
unfolding folded_multiply
returns c = refl
