use Rattle.std.proofs.Common.{◌≡◌, map, replicate, set, take, None, Some}
use Rattle.sparql_eval.proofs.graphs.name_rows.Given as goal

abbrev pub invariant-loop-i : goal.invariant-loop-i
invariant-loop-i l = record {
  width : l.made.width ≡ l.width;
  rows : l.made.rows ≡ map (λ n. set (replicate l.width None) l.variable (Some n)) (take l.i l.graphs);
}
