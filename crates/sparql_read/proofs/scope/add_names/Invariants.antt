use Rattle.std.proofs.Common.{◌++◌, take}
use Rattle.sparql_read.specs.NameSet.{HaveSame}
use Rattle.sparql_read.proofs.scope.add_names.Given as goal

abbrev pub invariant-loop-name : goal.invariant-loop-name
invariant-loop-name l = HaveSame l.scope (l.initial.scope ++ take l.name-index l.names)
