use Rattle.std.proofs.Common.{◌≡◌, ◌-◌, drop, flat_map, map, take}
use Rattle.result_json.specs.Packed.{rank_in}
use Rattle.result_json.proofs.packed_rows.unpacked.Given as goal

abbrev pub invariant-loop-i : goal.invariant-loop-i
invariant-loop-i l = l.made.items ≡ flat_map (map rank_in) (take (l.i - l.from) (drop l.from l.rows.rows))
