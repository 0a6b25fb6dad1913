use Rattle.std.proofs.Common.{◌≡◌, ◌++◌, ℕ, List, length}
use Rattle.cluster_parts.specs.Seal.{all_sealed, joined_texts}
use Rattle.cluster_parts.proofs.sealing.join_sealed.Given as goal

abbrev pub invariant-loop-rest : goal.invariant-loop-rest
invariant-loop-rest l = (texts : List (List ℕ)) × (l.bytes ≡ all_sealed texts ++ l.rest) × (l.joined.items ≡ joined_texts texts)

abbrev pub decreases-loop-rest : goal.decreases-loop-rest
decreases-loop-rest l = length l.rest
