use Rattle.std.proofs.Common.{◌≡◌, [], filter, map, sym, ap, ◌∙◌}
use Rattle.std.proofs.lemmas.Result.{IfOk-weaker}
use Rattle.std.specs.Str.{bytes_eq}
use Rattle.indexmap.specs.IndexSet.{insert_all}
use Rattle.sparql_tree.specs.GroupTree.{group_of}
use Rattle.sparql_tree.specs.QueryTree.{query_of, selection_of}
use Rattle.sparql_tree.specs.Scope.{group_scope}
use Rattle.sparql_algebra.specs.Names.{is_name_among, names_of, number_of, selected_by}
use Rattle.sparql_algebra.specs.Translation.{projection}
use Rattle.sparql_algebra.proofs.ProjectionSteps.{selected_as_listed, selected_in_scope}
use Rattle.sparql_algebra.proofs.translation.projected_numbers.Goals as goal

pub returns-in_ok-scope-in-All : goal.returns-in_ok-scope-in-All
returns-in_ok-scope-in-All c =
    let names = c.args.names.now in
    let all = names_of (query_of c.args.query.now) in
    let scope = group_scope (group_of c.args.query.now.group.items) in
    let noted = c.in_ok-scope-in-All.ensures.names ∙ ap (λ l. insert_all bytes_eq [] (group_scope (group_of l))) c.deref.ensures.value in
    let selected = ap (λ s. map (number_of all) (selected_by (selection_of s) scope all)) c.in-All.is in
    record {
      numbers = IfOk-weaker c.numbers_in_scope.result
          (λ v. v.items ≡ map (number_of names) (filter (λ x. is_name_among x c.in_ok-scope-in-All.scope) names))
          (λ v. v.items ≡ projection (query_of c.args.query.now))
          (λ v h. selected_in_scope names c.in_ok-scope-in-All.scope scope all v.items noted c.requires.names h ∙ sym selected)
          c.numbers_in_scope.ensures.numbers;
    }

pub returns-in_ok-note_list-in-Variables : goal.returns-in_ok-note_list-in-Variables
returns-in_ok-note_list-in-Variables c =
    let names = c.args.names.now in
    let all = names_of (query_of c.args.query.now) in
    let scope = group_scope (group_of c.args.query.now.group.items) in
    let noted = c.in_ok-note_list-in-Variables.ensures.noted
    ∙ (λ i. insert_all bytes_eq (c.new-selected.ensures.empty i) (c.deref-in-Variables.ensures.value i)) in
    let selected = ap (λ s. map (number_of all) (selected_by (selection_of s) scope all)) c.in-Variables.is in
    record {
      numbers = IfOk-weaker c.numbers.result
          (λ v. v.items ≡ map (number_of names) c.as_slice.result.now)
          (λ v. v.items ≡ projection (query_of c.args.query.now))
          (λ v h. selected_as_listed names c.note_list.new.names c.in-Variables.listed.items all v.items noted c.requires.names
          (h ∙ ap (map (number_of names)) c.as_slice.ensures.names) ∙ sym selected)
          c.numbers.ensures.numbers;
    }
