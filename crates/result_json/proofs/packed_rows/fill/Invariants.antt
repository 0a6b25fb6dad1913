use Rattle.std.proofs.Common.{◌≡◌, Some, map}
use Rattle.result_json.specs.Packed.{fitted}
use Rattle.result_json.proofs.packed_rows.fill.Given as goal

abbrev pub invariant-loop-place : goal.invariant-loop-place
invariant-loop-place l = l.cells.items ≡ map Some (fitted l.place l.row.ranks.now)
