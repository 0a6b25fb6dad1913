use Rattle.std.proofs.Common.{◌≡◌, take}
use Rattle.cluster_parts.specs.Terms.{line_list}
use Rattle.cluster_parts.proofs.term_lists.all_lines.Given as goal

abbrev pub invariant-loop-n : goal.invariant-loop-n
invariant-loop-n l = l.list.items ≡ line_list (take l.n l.texts.texts)
