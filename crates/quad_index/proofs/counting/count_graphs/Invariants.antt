use Rattle.std.proofs.Common.{◌≡◌, ◌≤◌, ◌+◌, drop}
use Rattle.quad_index.specs.Counting.{names_after}
use Rattle.quad_index.proofs.counting.count_graphs.Given as goal

abbrev pub invariant-loop-key : goal.invariant-loop-key
invariant-loop-key l = record {
  names : l.count + names_after l.last (drop l.key-index l.keys) ≡ names_after 0 l.keys;
  few : l.count ≤ l.key-index;
}
