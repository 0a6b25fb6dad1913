use Rattle.std.proofs.Common.{◌≡◌, ◌++◌, take}
use Rattle.result_json.specs.Ranks.{codes_of}
use Rattle.result_json.proofs.coding.put_codes.Given as goal

abbrev pub invariant-loop-variable : goal.invariant-loop-variable
invariant-loop-variable l = l.codes.items ≡ l.initial.codes.items ++ codes_of l.count (take l.variable-index l.listed) l.row
