use Rattle.std.proofs.Common.{◌≡◌, sym, ap, ◌∙◌}
use Rattle.algebra_model.specs.Algebra as algebra
use Rattle.sparql_algebra.specs.AlgebraOf.{algebra_of, graph_name_of}
use Rattle.needed_quads.proofs.PlanSteps.{graph_denotes, inner_needs, join_denotes, left_needs, open_needs, union_denotes}
use Rattle.needed_quads.proofs.TreeSteps.{added_as, covered_as, free_on, graph_on, inner_on, join_on, left_on, on_ok_as, open_on, restricted_as, union_on, whole_as}
use Rattle.needed_quads.proofs.building.+add_tree.Goals as goal

pub returns-in_ok-add_tree-in-Join-2-clause-added : goal.returns-in_ok-add_tree-in-Join-2-clause-added
returns-in_ok-add_tree-in-Join-2-clause-added t c =
    let A = algebra_of c.args.tree.now in
    let L = algebra_of c.deref.result.now in
    let R = algebra_of c.deref-in-Join-3.result.now in
    let first = c.in_ok-add_tree-in-Join.ensures in
    let next = c.add_tree.new.known.items in
    let more = c.add_before.new.known.items in
    let is : A ≡ algebra.Join L R =
    ap algebra_of c.in-Join.is ∙ join_denotes c.in-Join.left c.in-Join.right ∙ (λ i. algebra.Join (algebra_of ((sym c.deref.ensures) i)) (algebra_of ((sym c.deref-in-Join-3.ensures) i))) in
    join_on c.args.graph.now c.args.known.now.items c.add_unless.new.known.items next more A L R
    c.args.shapes.now.items c.add_tree.new.shapes.items c.add_tree-in-Join.new.shapes.items is
    c.in_ok-are_known-in-Join.ensures.restricted first.added first.known
    (restricted_as next more c.deref-in-Join.result.now c.deref.result.now (c.deref-in-Join.ensures ∙ sym c.deref.ensures) c.in_ok-add_before-in-Join.ensures.restricted)
    c.in_ok-add_tree-in-Join-2.ensures.added

pub returns-in_ok-inner-in-LeftJoin-clause-added : goal.returns-in_ok-inner-in-LeftJoin-clause-added
returns-in_ok-inner-in-LeftJoin-clause-added t c =
    let tree = c.args.tree.now in
    let left = c.in-LeftJoin.left in
    let right = c.in-LeftJoin.right in
    let last = c.add_tree-in-LeftJoin-2 in
    let inner = c.in_ok-inner-in-LeftJoin in
    let graph = c.args.graph.now in
    let known = c.args.known.now.items in
    let old = c.args.shapes.now.items in
    let mid = c.add_tree-in-LeftJoin.new.shapes.items in
    left_on last.result graph known inner.inner.items (algebra_of tree) (algebra_of left.value) (algebra_of right.value) old mid last.new.shapes.items
    (λ q here R. left_needs tree q here R left right c.in-LeftJoin.is)
    (covered_as inner.inner.items c.deref-in-LeftJoin-2.result.now left.value c.deref-in-LeftJoin-2.ensures inner.ensures.covered)
    (added_as graph known c.deref-in-LeftJoin.result.now left.value old mid c.deref-in-LeftJoin.ensures c.in_ok-add_tree-in-LeftJoin.ensures.added)
    (on_ok_as last.result graph inner.inner.items c.deref-in-LeftJoin-4.result.now right.value mid last.new.shapes.items c.deref-in-LeftJoin-4.ensures last.ensures.added)

pub returns-in_ok-add_tree-in-Union-clause-added : goal.returns-in_ok-add_tree-in-Union-clause-added
returns-in_ok-add_tree-in-Union-clause-added t c =
    let A = algebra_of c.args.tree.now in
    let L = algebra_of c.deref-in-Union.result.now in
    let R = algebra_of c.deref-in-Union-2.result.now in
    let first = c.in_ok-add_tree-in-Union.ensures in
    let last = c.add_tree-in-Union-2 in
    let is : A ≡ algebra.Union L R =
    ap algebra_of c.in-Union.is ∙ union_denotes c.in-Union.left c.in-Union.right ∙ (λ i. algebra.Union (algebra_of ((sym c.deref-in-Union.ensures) i)) (algebra_of ((sym c.deref-in-Union-2.ensures) i))) in
    union_on last.result c.args.graph.now c.args.known.now.items c.add_tree-in-Union.new.known.items A L R
    c.args.shapes.now.items c.add_tree-in-Union.new.shapes.items last.new.shapes.items is first.added first.known last.ensures.added

pub returns-then-has_expression-clause-added : goal.returns-then-has_expression-clause-added
returns-then-has_expression-clause-added t c =
    let A = algebra_of c.args.tree.now in
    let i = graph_name_of c.in-Graph.name in
    let B = algebra_of c.in-Graph.inner.value in
    let whole = c.in_ok-add_whole-in-Graph.ensures in
    let names = c.in_ok-names-in-Graph.names in
    let last = c.add_tree-then-has_expression in
    let mid = c.add_whole.new.shapes.items in
    graph_on last.result c.args.graph.now c.args.known.now.items c.as_slice-in-Graph.result.now names A i B
    c.args.shapes.now.items mid last.new.shapes.items (ap algebra_of c.in-Graph.is ∙ graph_denotes c.in-Graph.name c.in-Graph.inner) c.as_slice-in-Graph.ensures.value
    c.in_ok-names-in-Graph.ensures.wanted whole.kept (whole_as names mid c.deref-in-Graph.result.now c.in-Graph.inner.value c.deref-in-Graph.ensures whole.added)
    (free_on last.result names c.args.known.now.items c.new-none.result.items B mid last.new.shapes.items c.new-none.ensures.items
    (on_ok_as last.result names c.new-none.result.items c.deref-then-has_expression.result.now c.in-Graph.inner.value mid last.new.shapes.items c.deref-then-has_expression.ensures last.ensures.added))

pub returns-else-not-is_empty-clause-added : goal.returns-else-not-is_empty-clause-added
returns-else-not-is_empty-clause-added t c =
    let A = algebra_of c.args.tree.now in
    let i = graph_name_of c.in-Graph.name in
    let B = algebra_of c.in-Graph.inner.value in
    let whole = c.in_ok-add_whole-in-Graph.ensures in
    let names = c.in_ok-names-in-Graph.names in
    let last = c.add_tree-in-Graph in
    let mid = c.add_whole.new.shapes.items in
    graph_on last.result c.args.graph.now c.args.known.now.items c.as_slice-in-Graph.result.now names A i B
    c.args.shapes.now.items mid last.new.shapes.items (ap algebra_of c.in-Graph.is ∙ graph_denotes c.in-Graph.name c.in-Graph.inner) c.as_slice-in-Graph.ensures.value
    c.in_ok-names-in-Graph.ensures.wanted whole.kept (whole_as names mid c.deref-in-Graph.result.now c.in-Graph.inner.value c.deref-in-Graph.ensures whole.added)
    (on_ok_as last.result names c.args.known.now.items c.deref-in-Graph-2.result.now c.in-Graph.inner.value mid last.new.shapes.items c.deref-in-Graph-2.ensures last.ensures.added)

pub returns-in-Filter-clause-added : goal.returns-in-Filter-clause-added
returns-in-Filter-clause-added t c =
    let tree = c.args.tree.now in
    let last = c.add_tree-in-Filter in
    let inner = c.in-Filter.inner in
    let graph = c.args.graph.now in
    let known = c.args.known.now.items in
    let old = c.args.shapes.now.items in
    inner_on last.result graph known (algebra_of tree) (algebra_of inner.value) old last.new.shapes.items (λ q here R. inner_needs tree q here R inner c.in-Filter.is)
    (on_ok_as last.result graph known c.deref-in-Filter.result.now inner.value old last.new.shapes.items c.deref-in-Filter.ensures last.ensures.added)

pub returns-in-Project-clause-added : goal.returns-in-Project-clause-added
returns-in-Project-clause-added t c =
    let tree = c.args.tree.now in
    let last = c.add_tree-in-Project in
    let inner = c.in-Project.inner in
    let none = c.new-none-in-Project.result.items in
    let graph = c.args.graph.now in
    let old = c.args.shapes.now.items in
    open_on last.result graph c.args.known.now.items none (algebra_of tree) (algebra_of inner.value) old last.new.shapes.items (λ q here R. open_needs tree q here R inner c.in-Project.is) c.new-none-in-Project.ensures.items
    (on_ok_as last.result graph none c.deref-in-Project.result.now inner.value old last.new.shapes.items c.deref-in-Project.ensures last.ensures.added)
