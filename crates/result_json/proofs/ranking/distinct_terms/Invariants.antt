use Rattle.std.proofs.Common.{All}
use Rattle.result_json.specs.Ranks.{numbers_of, IsEntry}
use Rattle.result_json.proofs.RankSteps.{AreTaken}
use Rattle.result_json.proofs.ranking.distinct_terms.Given as goal

abbrev pub invariant-loop-number : goal.invariant-loop-number
invariant-loop-number l = record {
  entries : All (IsEntry l.dict) l.made.items;
  taken : AreTaken l.marks.items (numbers_of l.made.items) l.number;
}
