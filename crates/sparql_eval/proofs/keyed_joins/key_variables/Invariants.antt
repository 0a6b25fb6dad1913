use Rattle.std.proofs.Common.{◌≡◌, map, take}
use Rattle.sparql_eval.proofs.keyed_joins.key_variables.Given as goal

abbrev pub invariant-loop-i : goal.invariant-loop-i
invariant-loop-i l = record {
  left : l.lefts.items ≡ map (λ key. key.left.variable) (take l.i l.keys);
  right : l.rights.items ≡ map (λ key. key.right.variable) (take l.i l.keys);
}
