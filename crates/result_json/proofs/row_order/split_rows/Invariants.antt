use Rattle.std.proofs.Common.{◌≡◌, ◌++◌, ◌-◌}
use Rattle.row_core.specs.RowList.{rows_in}
use Rattle.result_json.specs.RankedRows.{ranks_of}
use Rattle.result_json.proofs.row_order.split_rows.Given as goal

abbrev pub invariant-loop-turn : goal.invariant-loop-turn
invariant-loop-turn l = ranks_of l.made.items ++ rows_in l.width l.width (l.count - l._turn) l.rest ≡ rows_in l.width l.width l.count l.ranks
