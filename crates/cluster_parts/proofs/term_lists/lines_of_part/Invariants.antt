use Rattle.std.proofs.Common.{◌≡◌, take}
use Rattle.cluster_parts.specs.Terms.{line_list, lines_in}
use Rattle.cluster_parts.proofs.term_lists.lines_of_part.Given as goal

abbrev pub invariant-loop-n : goal.invariant-loop-n
invariant-loop-n l = l.list.items ≡ line_list (lines_in l.partitions l.number (take l.n l.texts.texts))
