use Rattle.std.proofs.Common.{◌≡◌, map, take, Some, true}
use Rattle.algebra_model.specs.Keys.{is_keyed}
use Rattle.algebra_model.specs.RowOrder.{cells}
use Rattle.row_join.specs.Row.{row_of}
use Rattle.row_join.proofs.row_ref.RowRef.read_key.Given as goal

abbrev pub invariant-loop-i : goal.invariant-loop-i
invariant-loop-i l = record {
  keyed : is_keyed (take l.i l.key) (row_of l.self) ≡ true;
  read : map Some l.numbers.items ≡ cells (take l.i l.key) (row_of l.self);
}
