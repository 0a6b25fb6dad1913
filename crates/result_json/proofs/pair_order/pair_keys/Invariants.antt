use Rattle.std.proofs.Common.{◌≡◌, map}
use Rattle.row_core.specs.RowList.{rows_in}
use Rattle.result_json.specs.Pairs.{pair_in}
use Rattle.result_json.proofs.pair_order.pair_keys.Given as goal

abbrev pub invariant-loop-i : goal.invariant-loop-i
invariant-loop-i l = map pair_in l.keys.items ≡ rows_in 2 2 l.i l.ranks
