use Rattle.std.proofs.Common.{ap, ◌∙◌}
use Rattle.std.specs.Str.{bytes_eq}
use Rattle.indexmap.specs.IndexSet.{insert_all}
use Rattle.sparql_tree.specs.GroupTree.{group_of}
use Rattle.sparql_tree.specs.QueryTree.{selection_of}
use Rattle.sparql_tree.specs.Scope.{group_names}
use Rattle.sparql_algebra.specs.Names.{listed_names}
use Rattle.std.proofs.Common.{true}
use Rattle.sparql_algebra.proofs.NameSteps.{three_noted}
use Rattle.sparql_algebra.proofs.naming.query_names.Goals as goal

pub returns : goal.returns
returns c = record {
  names = three_noted c.args.query.now.mentioned.items (listed_names (selection_of c.args.query.now.selection)) (group_names true (group_of c.args.query.now.group.items))
      c.new-names.result c.note_list.new.names c.note_selection.new.names c.note_group.new.names
      c.new-names.ensures.empty
      (c.in_ok-note_list.ensures.noted ∙ ap (insert_all bytes_eq c.new-names.result) c.deref.ensures.value)
      c.in_ok-note_selection.ensures.noted
      (c.in_ok-note_group.ensures.noted ∙ ap (λ l. insert_all bytes_eq c.note_selection.new.names (group_names true (group_of l))) c.deref-2.ensures.value);
}
