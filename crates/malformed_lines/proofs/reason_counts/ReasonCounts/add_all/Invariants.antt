use Rattle.std.proofs.Common.{◌≡◌, ℕ, ◌+◌, ◌≤◌, ◌<◌, ◌^◌, ◌++◌, List, length, take}
use Rattle.std.specs.Vec.{vec_len, vec_capacity}
use Rattle.std.specs.Prelude.{Bool}
use Rattle.std.specs.List.{All}
use Rattle.line_diagnosis.specs.declared.summary.Summary.{Summary}
use Rattle.malformed_lines.specs.Counts.{HasNone, IsFirst, NameLinesFrom, moved, sum_of, total_of}
use Rattle.malformed_lines.specs.declared.reason_counts.ReasonCount.{ReasonCount}
use Rattle.malformed_lines.proofs.reason_counts.ReasonCounts.add_all.Given as goal

abbrev pub invariant-loop-count : goal.invariant-loop-count
invariant-loop-count l = record {
  named : (front back : List (List ℕ)) → l.before ≡ length front → length front + length back < 2 ^ 128
      → NameLinesFrom 1 (front ++ back) l.fn.self.counts.items → NameLinesFrom 0 back l.more → NameLinesFrom 1 (front ++ back) l.self.counts.items;
  total : total_of l.self.counts.items ≡ total_of l.fn.self.counts.items + total_of (take l.count-index l.more);
  sums : (test : Summary → Bool) → sum_of test l.self.counts.items ≡ sum_of test l.fn.self.counts.items + sum_of test (take l.count-index l.more);
  firsts : (singles : List ReasonCount) → All (λ c. l.before + (c.first + 1) < 2 ^ 128) l.more → All (IsFirst singles) l.fn.self.counts.items
      → All (λ c. HasNone c.reason l.fn.self.counts.items → IsFirst singles (moved l.before c)) l.more → All (IsFirst singles) l.self.counts.items;
  complete : (q : Summary) → HasNone q l.self.counts.items → HasNone q l.fn.self.counts.items × HasNone q (take l.count-index l.more);
  room : vec_len l.self.counts + (length l.more) ≤ vec_capacity l.self.counts + l.count-index;
}
