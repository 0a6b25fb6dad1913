use Rattle.std.proofs.Common.{map, sym, ap, ◌∙◌}
use Rattle.algebra_model.specs.Expression.{member}
use Rattle.sparql_tree.specs.ExpressionTree.{expression_of as tree_of}
use Rattle.expression_values.proofs.FoldSteps.{in_stands_for}
use Rattle.sparql_algebra.specs.Translation.{translate_expression}
use Rattle.sparql_algebra.proofs.PartSteps.{members_of}
use Rattle.sparql_algebra.proofs.TreeSteps.{member_stands_for}
use Rattle.sparql_algebra.proofs.conversion.+conversion.Goals as goal

pub convert-returns-in_ok-item-in-In : goal.convert-returns-in_ok-item-in-In
convert-returns-in_ok-item-in-In t c =
    let names = c.args.names.now in
    let item = c.in_ok-item-in-In.ensures.expression ∙ ap (λ e. translate_expression names (tree_of e)) c.deref-in-In-2.ensures in
    let list = c.in_ok-list-in-In.ensures.expressions
    ∙ ap (map (λ e. translate_expression names (tree_of e))) c.deref-in-In.ensures.value
    ∙ sym (members_of tree_of names c.in-In.list.items) in
    let tree = ap tree_of c.in-In.is ∙ member_stands_for c.in-In.item c.in-In.list in
    record {
      expression = in_stands_for c.in_ok-item-in-In.item c.in_ok-list-in-In.list
          ∙ (λ i. member (item i) (list i))
          ∙ sym (ap (translate_expression names) tree);
    }
