use Rattle.std.proofs.Common.{◌≡◌, length, take, All}
use Rattle.result_json.specs.Ranks.{IsMarked}
use Rattle.result_json.proofs.ranking.marked.Given as goal

abbrev pub invariant-loop-code : goal.invariant-loop-code
invariant-loop-code l = record {
  wide : length l.marks.items ≡ l.count;
  marked : All (IsMarked l.marks.items) (take l.code-index l.codes);
}
