use Rattle.std.proofs.Common.{length}
use Rattle.sparql_lexer.specs.Terminal.{terminals}
use Rattle.sparql_grammar.specs.Symbol as the
use Rattle.sparql_grammar.specs.Productions.{right_side}
use Rattle.sparql_expression.proofs.Steps.{Left}
use Rattle.sparql_parse.proofs.query.read_selected.Given as goal

abbrev pub invariant-variables : goal.invariant-variables
invariant-variables l = record {
  left : Left l.names (the.select l.distinct) (terminals l.tokens) (the.selected l.distinct l.variables.items) (λ v. v) (right_side (the.selected l.distinct l.variables.items)) (terminals l.rest);
}

abbrev pub decreases-variables : goal.decreases-variables
decreases-variables l = length l.rest
