use Rattle.std.proofs.Common.{◌≡◌, ℕ, ◌<◌, length}
use Rattle.result_json.specs.Ranks.{numbers_of, HasRank}
use Rattle.result_json.proofs.ranking.rank_table.Given as goal

abbrev pub invariant-loop-i : goal.invariant-loop-i
invariant-loop-i l = record {
  wide : length l.table.items ≡ l.count;
  ranks : (j : ℕ) → j < l.i → HasRank l.i (numbers_of l.order) l.table.items j;
}
