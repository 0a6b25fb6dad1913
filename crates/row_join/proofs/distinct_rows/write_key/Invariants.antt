use Rattle.std.proofs.Common.{◌≡◌, take}
use Rattle.row_join.specs.RowKeys.{row_numbers}
use Rattle.row_join.proofs.distinct_rows.write_key.Given as goal

abbrev pub invariant-loop-i : goal.invariant-loop-i
invariant-loop-i l = l.key.items ≡ row_numbers (take l.i l.row)
