use Rattle.std.proofs.Common.{◌≡◌, map, take}
use Rattle.row_core.specs.RowList.{rows_in}
use Rattle.result_json.specs.Pairs.{pair_in}
use Rattle.result_json.proofs.pair_order.put_pairs.Given as goal

abbrev pub invariant-loop-i : goal.invariant-loop-i
invariant-loop-i l = rows_in 2 2 l.i l.ranks ≡ map pair_in (take l.i l.keys)
