use Rattle.std.proofs.Common.{subst, IsPermutation, List, ℕ}
use Rattle.std.proofs.lemmas.List.Sorted.{IsPermutation-map}
use Rattle.result_json.specs.declared.ranked_row.RankedRow.{RankedRow}
use Rattle.result_json.specs.RankedRows.{ranks_of}
use Rattle.result_json.proofs.RowSteps.{sorted_ranks}
use Rattle.result_json.proofs.row_order.sorted_rows.Goals as goal

pub returns : goal.returns
returns c = record {
  permutation = subst (λ (ks : List (List ℕ)). IsPermutation ks (ranks_of c.sort_unstable.new.self.items)) c.in_ok-rows.ensures.rows (IsPermutation-map (λ (r : RankedRow). r.ranks.now) c.in_ok-rows.rows.items c.sort_unstable.new.self.items c.sort_unstable.ensures.permutation);
  sorted = sorted_ranks c.sort_unstable.new.self.items c.sort_unstable.ensures.sorted;
}
