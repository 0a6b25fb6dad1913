use Rattle.std.proofs.Common.{◌≡◌, take}
use Rattle.sparql_eval.specs.Values.{bind_each}
use Rattle.sparql_eval.proofs.extensions.extend_rows.Given as goal

abbrev pub invariant-loop-i : goal.invariant-loop-i
invariant-loop-i l = record {
  width : l.made.width ≡ l.rows.width;
  made : l.made.rows ≡ bind_each l.variable (take l.i l.numbers) (take l.i l.rows.rows);
}
