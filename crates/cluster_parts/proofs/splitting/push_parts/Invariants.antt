use Rattle.std.proofs.Common.{◌≡◌, ◌++◌}
use Rattle.cluster_parts.specs.Parts.{texts_below}
use Rattle.cluster_parts.specs.Known.{counted_part}
use Rattle.cluster_parts.proofs.splitting.push_parts.Given as goal

abbrev pub invariant-loop-number : goal.invariant-loop-number
invariant-loop-number l =
    l.out.items
    ≡ l.initial.out.items ++ texts_below (counted_part l.partitions l.terms.texts l.counting.names.texts l.counting.quad_hashes.items) l.number
