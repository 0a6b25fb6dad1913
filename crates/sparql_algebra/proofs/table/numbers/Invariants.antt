use Rattle.std.proofs.Common.{◌≡◌, ◌++◌, drop, map}
use Rattle.sparql_algebra.specs.Names.{number_of}
use Rattle.sparql_algebra.proofs.table.numbers.Given as goal

abbrev pub invariant-loop-name : goal.invariant-loop-name
invariant-loop-name l = l.numbers.items ++ map (number_of l.names) (drop l.name-index l.list) ≡ map (number_of l.names) l.list
