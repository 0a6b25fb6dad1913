use Rattle.std.proofs.Common.{◌≡◌, take, true}
use Rattle.row_join.specs.Pairing.{is_apart}
use Rattle.row_join.specs.Places.{rows_at}
use Rattle.row_join.specs.Row.{row_of}
use Rattle.row_join.specs.Tried.{places_of}
use Rattle.row_join.proofs.minus_operator.is_apart.Given as goal

abbrev pub invariant-loop-i : goal.invariant-loop-i
invariant-loop-i l = is_apart (rows_at l.right.rows (take l.i (places_of l.tried))) (row_of l.row) ≡ true
