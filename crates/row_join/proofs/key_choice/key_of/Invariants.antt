use Rattle.std.proofs.Common.{◌<◌, All}
use Rattle.row_join.proofs.key_choice.key_of.Given as goal

abbrev pub invariant-loop-v : goal.invariant-loop-v
invariant-loop-v l = record {
  closed : All (λ v. v < l.left.width) l.closed.items;
  shared : All (λ v. v < l.left.width) l.shared.items;
}
