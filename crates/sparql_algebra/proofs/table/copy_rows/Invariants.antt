use Rattle.std.proofs.Common.{◌≡◌, ◌++◌, drop, map}
use Rattle.sparql_algebra.proofs.table.copy_rows.Given as goal

abbrev pub invariant-loop-row : goal.invariant-loop-row
invariant-loop-row l = map (λ row. row.items) l.copy.items ++ map (λ row. row.items) (drop l.row-index l.rows) ≡ map (λ row. row.items) l.rows
