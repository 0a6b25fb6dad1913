use Rattle.std.proofs.Common.{◌≡◌, ◌++◌}
use Rattle.cluster_parts.specs.Parts.{texts_below}
use Rattle.cluster_parts.specs.Known.{lines_part}
use Rattle.cluster_parts.proofs.term_parts.push_line_parts.Given as goal

abbrev pub invariant-loop-number : goal.invariant-loop-number
invariant-loop-number l = l.out.items ≡ l.initial.out.items ++ texts_below (lines_part l.partitions l.texts.texts) l.number
