use Rattle.std.proofs.Common.{◌≡◌, flat_map, sym, ap, subst, ◌∙◌}
use Rattle.std.proofs.lemmas.List.{take_all}
use Rattle.std.proofs.lemmas.Result.{on_err_weaker, on_ok_weaker}
use Rattle.std.specs.Str.{bytes_eq}
use Rattle.indexmap.specs.IndexSet.{insert_all}
use Rattle.sparql_tree.specs.GroupTree.{element_of, group_of}
use Rattle.sparql_tree.specs.Scope.{element_names, group_names, graph_names}
use Rattle.sparql_algebra.specs.Names.{IsNotedInPart}
use Rattle.sparql_algebra.proofs.ListSteps.{next_names}
use Rattle.sparql_algebra.proofs.NameSteps.{at_refusal, names_of_group, noted_after, noted_first, noted_within, values_stands_for}
use Rattle.sparql_algebra.proofs.RepeatSteps.{insert_all-append}
use Rattle.sparql_algebra.proofs.TreeSteps.{union_stands_for, graph_stands_for}
use Rattle.sparql_algebra.proofs.naming.+naming.Goals as goal

pub note_group-returns : goal.note_group-returns
note_group-returns t c = record {
  noted = c.loop-element.invariant
      ∙ ap (λ l. insert_all bytes_eq c.args.names.now (flat_map (λ e. element_names c.args.all (element_of e)) l)) (take_all c.loop-element.element-index c.args.group.now c.loop-element-test.false)
      ∙ ap (insert_all bytes_eq c.args.names.now) (sym (names_of_group c.args.all c.args.group.now));
  in_part = tt;
}

pub note_group-returns-in_err-note_element-clause-in_part : goal.note_group-returns-in_err-note_element-clause-in_part
note_group-returns-in_err-note_element-clause-in_part t c =
    at_refusal c.from_residual.result
    (subst (λ l. IsNotedInPart c.args.names.now l c.note_element.new.names) (sym (names_of_group c.args.all c.args.group.now))
    (noted_within (λ e. element_names c.args.all (element_of e)) c.args.group.now c.loop-element.element-index c.element-item.result c.args.names.now c.loop-element.names c.note_element.new.names
    c.loop-element-test.true c.loop-element.invariant c.element-item.is c.in_err-note_element.ensures.in_part))

pub note_element-returns-in_err-note_element-in-Union-clause-in_part : goal.note_element-returns-in_err-note_element-in-Union-clause-in_part
note_element-returns-in_err-note_element-in-Union-clause-in_part t c =
    rw (c.in-Union.is, union_stands_for c.in-Union.left c.in-Union.right)
    (at_refusal c.from_residual.result
    (noted_first (element_names c.args.all (element_of c.in-Union.left.value)) (group_names c.args.all (group_of c.in-Union.right.items)) c.args.names.now c.note_element.new.names
    (rw c.deref-in-Union.ensures at c.in_err-note_element-in-Union.ensures.in_part)))

pub note_element-returns-in_err-note_graph_name-in-Graph-clause-in_part : goal.note_element-returns-in_err-note_graph_name-in-Graph-clause-in_part
note_element-returns-in_err-note_graph_name-in-Graph-clause-in_part t c =
    rw (c.in-Graph.is, graph_stands_for c.in-Graph.name c.in-Graph.group)
    (at_refusal c.from_residual-in_err-note_graph_name-in-Graph.result
    (noted_first (graph_names c.in-Graph.name) (group_names c.args.all (group_of c.in-Graph.group.items)) c.args.names.now c.note_graph_name.new.names
    c.in_err-note_graph_name-in-Graph.ensures.in_part))

pub note_element-returns-in_ok-note_element-in-Union-clause-noted : goal.note_element-returns-in_ok-note_element-in-Union-clause-noted
note_element-returns-in_ok-note_element-in-Union-clause-noted t c =
    let left = element_names c.args.all (element_of c.in-Union.left.value) in
    let right = group_names c.args.all (group_of c.in-Union.right.items) in
    let first : c.note_element.new.names ≡ insert_all bytes_eq c.args.names.now left = rw c.deref-in-Union.ensures at c.in_ok-note_element-in-Union.ensures.noted in
    rw (c.in-Union.is, union_stands_for c.in-Union.left c.in-Union.right)
    (on_ok_weaker c.note_group-in-Union.result
    (λ second. second ∙ ap (λ n. insert_all bytes_eq n right) first ∙ sym (insert_all-append bytes_eq c.args.names.now left right))
    (rw c.deref-in-Union-2.ensures.value at c.note_group-in-Union.ensures.noted))

pub note_element-returns-in_ok-note_element-in-Union-clause-in_part : goal.note_element-returns-in_ok-note_element-in-Union-clause-in_part
note_element-returns-in_ok-note_element-in-Union-clause-in_part t c =
    let left = element_names c.args.all (element_of c.in-Union.left.value) in
    let right = group_names c.args.all (group_of c.in-Union.right.items) in
    let first : c.note_element.new.names ≡ insert_all bytes_eq c.args.names.now left = rw c.deref-in-Union.ensures at c.in_ok-note_element-in-Union.ensures.noted in
    rw (c.in-Union.is, union_stands_for c.in-Union.left c.in-Union.right)
    (on_err_weaker c.note_group-in-Union.result
    (noted_after left right c.args.names.now c.note_element.new.names c.note_group-in-Union.new.names first)
    (rw c.deref-in-Union-2.ensures.value at c.note_group-in-Union.ensures.in_part))

pub note_element-returns-in_ok-note_graph_name-in-Graph-clause-in_part : goal.note_element-returns-in_ok-note_graph_name-in-Graph-clause-in_part
note_element-returns-in_ok-note_graph_name-in-Graph-clause-in_part t c =
    rw (c.in-Graph.is, graph_stands_for c.in-Graph.name c.in-Graph.group)
    (on_err_weaker c.note_group-in-Graph.result
    (noted_after (graph_names c.in-Graph.name) (group_names c.args.all (group_of c.in-Graph.group.items)) c.args.names.now c.note_graph_name.new.names c.note_group-in-Graph.new.names
    c.in_ok-note_graph_name-in-Graph.ensures.noted)
    (rw c.deref-in-Graph.ensures.value at c.note_group-in-Graph.ensures.in_part))

pub note_element-returns-in-Values-clause-in_part : goal.note_element-returns-in-Values-clause-in_part
note_element-returns-in-Values-clause-in_part t c =
    rw (c.in-Values.is, values_stands_for c.in-Values.variables c.in-Values.field-1) (rw c.deref-in-Values.ensures.value at c.note_list.ensures.in_part)

pub note_group-loop-element-preserved : goal.note_group-loop-element-preserved
note_group-loop-element-preserved t c =
    next_names (λ e. element_names c.args.all (element_of e)) c.args.group.now c.loop-element.element-index c.element-item.result c.args.names.now c.loop-element.names c.note_element.new.names
    c.loop-element-test.true c.element-item.is c.loop-element.invariant c.in_ok-note_element.ensures.noted
