use Rattle.std.proofs.Common.{◌<◌, ◌+◌, ◌*◌, length}
use Rattle.sparql_lexer.specs.Terminal.{terminals}
use Rattle.sparql_tree.specs.ExpressionTree.{expression_of, expressions_of}
use Rattle.sparql_grammar.specs.Productions.{right_side}
use Rattle.sparql_grammar.specs.Symbol as the
use Rattle.sparql_expression.proofs.Steps.{Left}
use Rattle.sparql_expression.proofs.expressions.+expression.Given as goal

abbrev pub decreases-read_disjunction : goal.decreases-read_disjunction
decreases-read_disjunction l = 8 * length l.tokens.now + 7

abbrev pub decreases-read_conjunction : goal.decreases-read_conjunction
decreases-read_conjunction l = 8 * length l.tokens.now + 6

abbrev pub decreases-read_relation : goal.decreases-read_relation
decreases-read_relation l = 8 * length l.tokens.now + 5

abbrev pub decreases-read_unary : goal.decreases-read_unary
decreases-read_unary l = 8 * length l.tokens.now + 4

abbrev pub decreases-read_primary : goal.decreases-read_primary
decreases-read_primary l = 8 * length l.tokens.now + 3

abbrev pub decreases-read_call : goal.decreases-read_call
decreases-read_call l = 8 * length l.tokens.now + 2

abbrev pub decreases-read_same_term : goal.decreases-read_same_term
decreases-read_same_term l = 8 * length l.tokens.now + 1

abbrev pub decreases-read_members : goal.decreases-read_members
decreases-read_members l = 8 * length l.tokens.now + 1

abbrev pub decreases-read_bracket : goal.decreases-read_bracket
decreases-read_bracket l = 8 * length l.tokens.now + 0

abbrev pub invariant-read_disjunction-parts : goal.invariant-read_disjunction-parts
invariant-read_disjunction-parts l = record {
  left : Left l.names the.disjunction (terminals l.tokens) (the.more_or (expression_of l.left)) (λ e. e) (right_side (the.more_or (expression_of l.left))) (terminals l.rest);
  shorter : length l.rest < length l.tokens;
}

abbrev pub decreases-read_disjunction-parts : goal.decreases-read_disjunction-parts
decreases-read_disjunction-parts l = length l.rest

abbrev pub invariant-read_conjunction-parts : goal.invariant-read_conjunction-parts
invariant-read_conjunction-parts l = record {
  left : Left l.names the.conjunction (terminals l.tokens) (the.more_and (expression_of l.left)) (λ e. e) (right_side (the.more_and (expression_of l.left))) (terminals l.rest);
  shorter : length l.rest < length l.tokens;
}

abbrev pub decreases-read_conjunction-parts : goal.decreases-read_conjunction-parts
decreases-read_conjunction-parts l = length l.rest

abbrev pub invariant-read_members-members : goal.invariant-read_members-members
invariant-read_members-members l = record {
  left : Left l.names the.members (terminals l.tokens) (the.more_members (expressions_of l.members.items)) (λ es. es) (right_side (the.more_members (expressions_of l.members.items))) (terminals l.rest);
  shorter : length l.rest < length l.tokens;
}

abbrev pub decreases-read_members-members : goal.decreases-read_members-members
decreases-read_members-members l = length l.rest
