use Rattle.std.proofs.Common.{◌≡◌, map, take}
use Rattle.result_json.specs.Packed.{fitted, ranks_in}
use Rattle.result_json.specs.RankedRows.{ranks_of}
use Rattle.result_json.proofs.packed_rows.packed.Given as goal

abbrev pub invariant-loop-row : goal.invariant-loop-row
invariant-loop-row l = record {
  width : l.made.width ≡ l.width;
  rows : ranks_in l.made ≡ map (fitted l.width) (ranks_of (take l.row-index l.rows));
}
