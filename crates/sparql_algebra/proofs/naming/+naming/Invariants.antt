use Rattle.std.proofs.Common.{◌≡◌, take, flat_map}
use Rattle.std.specs.Str.{bytes_eq}
use Rattle.indexmap.specs.IndexSet.{insert_all}
use Rattle.sparql_tree.specs.GroupTree.{element_of}
use Rattle.sparql_tree.specs.Scope.{element_names}
use Rattle.sparql_algebra.proofs.naming.+naming.Given as goal

abbrev pub invariant-note_group-loop-element : goal.invariant-note_group-loop-element
invariant-note_group-loop-element l =
    l.names ≡ insert_all bytes_eq l.initial.names (flat_map (λ e. element_names l.all (element_of e)) (take l.element-index l.group))
