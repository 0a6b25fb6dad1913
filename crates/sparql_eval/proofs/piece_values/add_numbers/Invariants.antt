use Rattle.std.proofs.Common.{◌≡◌, ◌++◌, map, take}
use Rattle.sparql_eval.specs.Values.{value_number}
use Rattle.sparql_eval.proofs.piece_values.add_numbers.Given as goal

abbrev pub invariant-loop-value : goal.invariant-loop-value
invariant-loop-value l = l.numbers.items ≡ l.fn.numbers.items ++ map (value_number l.own_numbers) (take l.value-index l.values)
