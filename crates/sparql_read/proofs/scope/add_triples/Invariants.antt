use Rattle.std.proofs.Common.{◌++◌, flat_map, take}
use Rattle.sparql_tree.specs.Scope.{triple_names}
use Rattle.sparql_read.specs.NameSet.{HaveSame}
use Rattle.sparql_read.proofs.scope.add_triples.Given as goal

abbrev pub invariant-loop-triple : goal.invariant-loop-triple
invariant-loop-triple l = HaveSame l.scope (l.initial.scope ++ flat_map triple_names (take l.triple-index l.triples))
