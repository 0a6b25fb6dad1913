use Rattle.std.proofs.Common.{◌≡◌, ◌∙◌, true, false, sym, ap, subst, arith}
use Rattle.std.proofs.lemmas.Result.{IfOk-weaker}
use Rattle.sparql_tree.specs.declared.group.Element.{size-Element}
use Rattle.sparql_tree.specs.GroupTree.{element_of, group, group_of}
use Rattle.sparql_read.specs.BindScope.{breaks_bind_scope, breaks_inside}
use Rattle.sparql_read.specs.ScopeSteps.{AddsScope, IsScopeOf}
use Rattle.sparql_read.proofs.GroupLaws.{graph_denotes, union_deeper, union_denotes}
use Rattle.sparql_read.proofs.ScopeSteps.{scope_before, scope_after_broken, scope_bound, scope_broken, scope_joined, scope_more, scope_named}
use Rattle.sparql_read.proofs.scope.+scope.Goals as goal

pub add_element-returns-then-not-branch : goal.add_element-returns-then-not-branch
add_element-returns-then-not-branch t c =
    let f : c.in_ok-add_group-in-Union.field-0 ≡ false = grind (arith, c.if-not-branch.true) in
    let h = subst (λ b. AddsScope (group (group_of c.deref-in-Union.result.now)) b c.args.scope.now c.add_group-in-Union.new.scope) f c.in_ok-add_group-in-Union.ensures.scope in
    let e = ap element_of c.in-Union.is ∙ union_denotes c.in-Union.left c.in-Union.right in
    record {
      scope = ap breaks_inside e ∙ scope_after_broken (element_of c.in-Union.left.value) (group_of c.in-Union.right.items)
          (sym (ap (λ es. breaks_bind_scope (group_of es)) c.deref-in-Union.ensures.value) ∙ h);
    }

pub add_element-returns-else-not-branch : goal.add_element-returns-else-not-branch
add_element-returns-else-not-branch t c =
    let xs = c.args.scope.now in
    let ys = c.add_group-in-Union.new.scope in
    let zs = c.add_left.new.scope in
    let f : c.in_ok-add_group-in-Union.field-0 ≡ true = grind (arith, c.if-not-branch.false) in
    let h = subst (λ b. AddsScope (group (group_of c.deref-in-Union.result.now)) b xs ys) f c.in_ok-add_group-in-Union.ensures.scope in
    let g = subst (λ es. AddsScope (group (group_of es)) true xs ys) c.deref-in-Union.ensures.value h in
    let e = ap element_of c.in-Union.is ∙ union_denotes c.in-Union.left c.in-Union.right in
    record {
      scope = IfOk-weaker c.add_left.result _ _
          (λ b k. subst (λ e. AddsScope e b xs zs) (sym e)
          (scope_before b (element_of c.in-Union.left.value) (group_of c.in-Union.right.items) xs ys zs g
          (subst (λ e. AddsScope (element_of e) b ys zs) c.deref-in-Union-2.ensures k)))
          c.add_left.ensures.scope;
    }

pub add_left-groups-preserved : goal.add_left-groups-preserved
add_left-groups-preserved t c =
    let xs = c.groups.scope in
    let ys = c.add_group.new.scope in
    let f : c.in_ok-add_group.field-0 ≡ true = grind (arith, c.if-not-branch.false) in
    let h = subst (λ b. AddsScope (group (group_of c.deref.result.now)) b xs ys) f c.in_ok-add_group.ensures.scope in
    let g = subst (λ es. AddsScope (group (group_of es)) true xs ys) c.deref.ensures.value h in
    let e = ap element_of c.in-Union.is ∙ union_denotes c.in-Union.left c.in-Union.right in
    record {
      no_deeper = rw c.deref-rest.ensures (omega (arith, union_deeper c.in-Union.left c.in-Union.right, ap size-Element c.in-Union.is));
      adds = λ b zs k. c.groups.invariant.adds b zs (subst (λ e. AddsScope e b xs zs) (sym e)
          (scope_before b (element_of c.in-Union.left.value) (group_of c.in-Union.right.items) xs ys zs g
          (subst (λ e. AddsScope (element_of e) b ys zs) c.deref-rest.ensures k)));
    }

pub add_left-returns-then-not-branch : goal.add_left-returns-then-not-branch
add_left-returns-then-not-branch t c =
    let f : c.in_ok-add_group.field-0 ≡ false = grind (arith, c.if-not-branch.true) in
    let h = subst (λ b. AddsScope (group (group_of c.deref.result.now)) b c.groups.scope c.add_group.new.scope) f c.in_ok-add_group.ensures.scope in
    let e = ap element_of c.in-Union.is ∙ union_denotes c.in-Union.left c.in-Union.right in
    record {
      scope = c.groups.invariant.adds false c.add_group.new.scope (ap breaks_inside e
          ∙ scope_after_broken (element_of c.in-Union.left.value) (group_of c.in-Union.right.items)
          (sym (ap (λ es. breaks_bind_scope (group_of es)) c.deref.ensures.value) ∙ h));
    }

pub add_left-returns : goal.add_left-returns
add_left-returns t c = record {
  scope = IfOk-weaker c.add_element.result _ _ (λ b k. c.groups.invariant.adds b c.add_element.new.scope k) c.add_element.ensures.scope;
}

pub add_element-returns-in_ok-add_graph_name-in-Graph : goal.add_element-returns-in_ok-add_graph_name-in-Graph
add_element-returns-in_ok-add_graph_name-in-Graph t c =
    let xs = c.args.scope.now in
    let ys = c.add_graph_name.new.scope in
    let zs = c.add_group-in-Graph.new.scope in
    let e = ap element_of c.in-Graph.is ∙ graph_denotes c.in-Graph.name c.in-Graph.elements in
    record {
      scope = IfOk-weaker c.add_group-in-Graph.result _ _
          (λ b k. subst (λ e. AddsScope e b xs zs) (sym e)
          (scope_named b c.in-Graph.name (group_of c.in-Graph.elements.items) xs ys zs c.in_ok-add_graph_name-in-Graph.ensures.names
          (subst (λ es. AddsScope (group (group_of es)) b ys zs) c.deref-in-Graph.ensures.value k)))
          c.add_group-in-Graph.ensures.scope;
    }

pub add_group-returns-in_ok-absorb-in-Some : goal.add_group-returns-in_ok-absorb-in-Some
add_group-returns-in_ok-absorb-in-Some t c =
    let h = subst (IsScopeOf (group_of c.args.elements.now)) c.in-Some.is c.in_ok-inner.ensures.scope in
    record { scope = scope_joined (group_of c.args.elements.now) c.in-Some.inner c.args.scope.now c.absorb.new.self h c.in_ok-absorb-in-Some.ensures.names }

pub scope_of-returns-then-binds_among : goal.scope_of-returns-then-binds_among
scope_of-returns-then-binds_among t c = record {
  scope =
      scope_bound c.args.elements.now c.loop-element.element-index c.element-item.result c.loop-element.scope
      c.loop-element-test.true c.element-item.is c.loop-element.invariant c.if-binds_among.ensures.value;
}

pub scope_of-returns-then-not-branch : goal.scope_of-returns-then-not-branch
scope_of-returns-then-not-branch t c =
    let f : c.in_ok-add_element.field-0 ≡ false = grind (arith, c.if-not-branch.true) in
    record {
      scope = scope_broken c.args.elements.now c.loop-element.element-index c.element-item.result
          c.loop-element-test.true c.element-item.is
          (subst (λ b. AddsScope (element_of c.element-item.result) b c.loop-element.scope c.add_element.new.scope) f c.in_ok-add_element.ensures.scope);
    }

pub scope_of-loop-element-preserved : goal.scope_of-loop-element-preserved
scope_of-loop-element-preserved t c =
    let f : c.in_ok-add_element.field-0 ≡ true = grind (arith, c.if-not-branch.false) in
    scope_more c.args.elements.now c.loop-element.element-index c.element-item.result c.loop-element.scope c.add_element.new.scope
    c.loop-element-test.true c.element-item.is c.loop-element.invariant c.if-binds_among.ensures.value
    (subst (λ b. AddsScope (element_of c.element-item.result) b c.loop-element.scope c.add_element.new.scope) f c.in_ok-add_element.ensures.scope)
