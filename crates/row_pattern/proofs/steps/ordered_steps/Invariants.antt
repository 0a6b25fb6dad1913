use Rattle.std.proofs.Common.{◌≡◌, length, IsPermutation}
use Rattle.row_pattern.proofs.steps.ordered_steps.Given as goal

abbrev pub invariant-loop-i : goal.invariant-loop-i
invariant-loop-i l = record {
  long : length l.steps.items ≡ length l.initial.steps.items;
  same : IsPermutation l.initial.steps.items l.steps.items;
}
