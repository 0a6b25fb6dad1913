use Rattle.std.proofs.Common.{◌≡◌, map, take}
use Rattle.sparql_eval.proofs.keyed_rows.first_cells.Given as goal

abbrev pub invariant-loop-i : goal.invariant-loop-i
invariant-loop-i l = record {
  width : l.made.width ≡ l.width;
  rows : l.made.rows ≡ map (take l.width) (take l.i l.rows.rows);
}
