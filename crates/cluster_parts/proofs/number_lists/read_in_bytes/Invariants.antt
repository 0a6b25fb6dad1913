use Rattle.std.proofs.Common.{◌≡◌, ◌++◌, ◌<◌, ◌^◌, All, length}
use Rattle.cluster_parts.specs.NumberList.{in_bytes}
use Rattle.cluster_parts.proofs.number_lists.read_in_bytes.Given as goal

abbrev pub invariant-loop-rest : goal.invariant-loop-rest
invariant-loop-rest l = (l.bytes ≡ in_bytes l.count l.numbers.items ++ l.rest) × All (λ n. n < 256 ^ l.count) l.numbers.items

abbrev pub decreases-loop-rest : goal.decreases-loop-rest
decreases-loop-rest l = length l.rest
