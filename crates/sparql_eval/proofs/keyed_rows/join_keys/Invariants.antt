use Rattle.sparql_eval.specs.Fitting.{Requires, fits}
use Rattle.sparql_eval.proofs.keyed_rows.join_keys.Given as goal

abbrev pub invariant-loop-i : goal.invariant-loop-i
invariant-loop-i l = Requires (fits l.pairs) l.keys.items
