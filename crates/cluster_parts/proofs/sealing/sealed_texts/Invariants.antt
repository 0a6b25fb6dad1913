use Rattle.std.proofs.Common.{◌≡◌, ◌++◌, length}
use Rattle.cluster_parts.specs.Seal.{all_sealed}
use Rattle.cluster_parts.specs.Known.{texts_of}
use Rattle.cluster_parts.proofs.sealing.sealed_texts.Given as goal

abbrev pub invariant-loop-rest : goal.invariant-loop-rest
invariant-loop-rest l = l.bytes ≡ all_sealed (texts_of l.texts.items) ++ l.rest

abbrev pub decreases-loop-rest : goal.decreases-loop-rest
decreases-loop-rest l = length l.rest
