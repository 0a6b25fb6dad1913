use Rattle.std.proofs.Common.{◌≡◌, ◌++◌, ◌∷◌, [], nat_eq, take}
use Rattle.algebra_model.specs.Operators.{join}
use Rattle.sparql_eval.proofs.graphs.add_named.Given as goal

abbrev pub invariant-loop-i : goal.invariant-loop-i
invariant-loop-i l = record {
  width : l.made.width ≡ l.fn.made.width;
  added : l.made.rows ≡ l.fn.made.rows ++ join nat_eq (take l.i l.rows.rows) (l.name ∷ []);
}
