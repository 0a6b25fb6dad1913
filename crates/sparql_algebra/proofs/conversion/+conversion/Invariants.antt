use Rattle.std.proofs.Common.{◌≡◌, ◌++◌, drop, map}
use Rattle.sparql_tree.specs.ExpressionTree.{expression_of as tree_of}
use Rattle.expression_values.specs.ExpressionOf.{expression_of}
use Rattle.sparql_algebra.specs.Translation.{translate_expression}
use Rattle.sparql_algebra.proofs.conversion.+conversion.Given as goal

abbrev pub invariant-convert_list-loop-tree : goal.invariant-convert_list-loop-tree
invariant-convert_list-loop-tree l =
    map expression_of l.list.items ++ map (λ tree. translate_expression l.names (tree_of tree)) (drop l.tree-index l.trees)
    ≡ map (λ tree. translate_expression l.names (tree_of tree)) l.trees
