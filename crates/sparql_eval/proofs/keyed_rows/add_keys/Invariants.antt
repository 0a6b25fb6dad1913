use Rattle.std.proofs.Common.{◌≡◌, ◌++◌, take}
use Rattle.sparql_eval.specs.KeyedRows.{keys_of}
use Rattle.sparql_eval.proofs.keyed_rows.add_keys.Given as goal

abbrev pub invariant-loop-variable : goal.invariant-loop-variable
invariant-loop-variable l = l.cells.items ≡ l.row ++ keys_of l.dict (take l.variable-index l.variables) l.row
