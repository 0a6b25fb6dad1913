use Rattle.std.proofs.Common.{◌≡◌, flat_map, length, take}
use Rattle.result_json.specs.Ranks.{codes_of}
use Rattle.result_json.proofs.coding.listed_codes.Given as goal

abbrev pub invariant-loop-i : goal.invariant-loop-i
invariant-loop-i l = l.codes.items ≡ flat_map (codes_of (length l.dict) l.listed) (take l.i l.rows.rows)
