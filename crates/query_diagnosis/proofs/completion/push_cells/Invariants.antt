use Rattle.std.proofs.Common.{◌≤◌, length}
use Rattle.query_diagnosis.proofs.completion.push_cells.Given as goal

abbrev pub invariant-cells : goal.invariant-cells
invariant-cells l = length l.fn.end.items ≤ length l.end-2.items
