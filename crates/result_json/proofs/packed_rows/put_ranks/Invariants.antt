use Rattle.std.proofs.Common.{◌≡◌, ◌++◌, map, take}
use Rattle.result_json.specs.Packed.{rank_in}
use Rattle.result_json.proofs.packed_rows.put_ranks.Given as goal

abbrev pub invariant-loop-cell : goal.invariant-loop-cell
invariant-loop-cell l = l.ranks.items ≡ l.initial.ranks.items ++ map rank_in (take l.cell-index l.cells)
