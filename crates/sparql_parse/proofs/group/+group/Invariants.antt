use Rattle.std.proofs.Common.{◌<◌, ◌+◌, ◌*◌, length}
use Rattle.sparql_lexer.specs.Terminal.{terminals}
use Rattle.sparql_tree.specs.GroupTree.{element_of, group_of}
use Rattle.sparql_grammar.specs.Symbol as the
use Rattle.sparql_grammar.specs.Productions.{right_side}
use Rattle.sparql_expression.proofs.Steps.{Left}
use Rattle.sparql_parse.proofs.group.+group.Given as goal

abbrev pub decreases-read_group : goal.decreases-read_group
decreases-read_group l = 4 * length l.tokens.now

abbrev pub decreases-read_unions : goal.decreases-read_unions
decreases-read_unions l = 4 * length l.tokens.now + 1

abbrev pub decreases-read_named_graph : goal.decreases-read_named_graph
decreases-read_named_graph l = 4 * length l.tokens.now + 1

abbrev pub decreases-read_other : goal.decreases-read_other
decreases-read_other l = 4 * length l.tokens.now + 2

abbrev pub invariant-read_group-elements : goal.invariant-read_group-elements
invariant-read_group-elements l = record {
  left : Left l.names the.group (terminals l.tokens) (the.others (group_of l.elements.items)) (λ v. v) (right_side (the.others (group_of l.elements.items))) (terminals l.rest);
  shorter : length l.rest < length l.tokens;
}

abbrev pub decreases-read_group-elements : goal.decreases-read_group-elements
decreases-read_group-elements l = length l.rest

abbrev pub invariant-read_unions-groups : goal.invariant-read_unions-groups
invariant-read_unions-groups l = record {
  left : Left l.names the.unions (terminals l.tokens) (the.more_union (element_of l.left)) (λ v. v) (right_side (the.more_union (element_of l.left))) (terminals l.rest);
  shorter : length l.rest < length l.tokens;
}

abbrev pub decreases-read_unions-groups : goal.decreases-read_unions-groups
decreases-read_unions-groups l = length l.rest
