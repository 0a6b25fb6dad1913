use Rattle.std.proofs.Common.{◌≡◌, ◌++◌, drop}
use Rattle.sparql_algebra.proofs.table.copy_row.Given as goal

abbrev pub invariant-loop-cell : goal.invariant-loop-cell
invariant-loop-cell l = l.copy.items ++ drop l.cell-index l.row ≡ l.row
