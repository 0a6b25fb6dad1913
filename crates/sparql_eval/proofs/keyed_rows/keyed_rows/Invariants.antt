use Rattle.std.proofs.Common.{◌≡◌, map, take}
use Rattle.sparql_eval.specs.KeyedRows.{with_keys}
use Rattle.sparql_eval.proofs.keyed_rows.keyed_rows.Given as goal

abbrev pub invariant-loop-i : goal.invariant-loop-i
invariant-loop-i l = record {
  width : l.made.width ≡ l.width;
  rows : l.made.rows ≡ map (with_keys l.dict l.variables) (take l.i l.rows.rows);
}
