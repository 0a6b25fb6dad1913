use Rattle.std.proofs.Common.{◌≡◌, ◌++◌, take, nat_eq, filter}
use Rattle.algebra_model.specs.Operators.{merges}
use Rattle.algebra_model.specs.Solve.{alone}
use Rattle.row_join.specs.Places.{rows_at}
use Rattle.row_join.specs.Row.{row_of}
use Rattle.row_join.specs.Tried.{places_of}
use Rattle.row_join.proofs.merging.add_merges.Given as goal

abbrev pub invariant-loop-i : goal.invariant-loop-i
invariant-loop-i g l =
    let right = l.right.rows.now.rows in
    record {
      width : l.made.width ≡ l.fn.made.width;
      rows : l.made.rows ≡ l.fn.made.rows ++ filter (g.T.RowTest.keeps l.test) (merges nat_eq (row_of l.row) (rows_at right (take l.i (places_of l.tried))));
      alone : l.alone ≡ alone nat_eq (g.T.RowTest.keeps l.test) (rows_at right (take l.i (places_of l.tried))) (row_of l.row);
    }
