use Rattle.std.proofs.Common.{◌≡◌, ◌*◌, nat_eq, map, take}
use Rattle.algebra_model.specs.Operators.{distinct}
use Rattle.row_join.specs.RowKeys.{row_numbers}
use Rattle.row_join.proofs.distinct_rows.distinct.Given as goal

abbrev pub invariant-loop-i : goal.invariant-loop-i
invariant-loop-i l = record {
  width : l.made.width ≡ l.rows.width;
  made : l.made.rows ≡ distinct nat_eq (take l.i l.rows.rows);
  seen : l.seen.keys ≡ map row_numbers l.made.rows;
  wide : l.seen.width ≡ l.rows.width * 2;
}
