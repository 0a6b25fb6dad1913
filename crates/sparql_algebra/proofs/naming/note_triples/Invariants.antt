use Rattle.std.proofs.Common.{◌≡◌, take, flat_map}
use Rattle.std.specs.Str.{bytes_eq}
use Rattle.indexmap.specs.IndexSet.{insert_all}
use Rattle.sparql_tree.specs.Scope.{triple_names}
use Rattle.sparql_algebra.proofs.naming.note_triples.Given as goal

abbrev pub invariant-loop-triple : goal.invariant-loop-triple
invariant-loop-triple l =
    l.names ≡ insert_all bytes_eq l.initial.names (flat_map triple_names (take l.triple-index l.triples))
