use Rattle.std.proofs.Common.{◌<◌, length}
use Rattle.sparql_lexer.specs.Terminal.{terminals}
use Rattle.sparql_grammar.specs.Values.{Names}
use Rattle.sparql_grammar.specs.Symbol as the
use Rattle.sparql_grammar.specs.Productions.{right_side}
use Rattle.sparql_expression.proofs.Steps.{Left}
use Rattle.sparql_parse.proofs.data_block.read_heading.Given as goal

abbrev pub invariant-variables : goal.invariant-variables
invariant-variables l = record {
  left : (names : Names) → Left names the.heading (terminals l.tokens) (the.more_heading l.heading.items) (λ v. v) (right_side (the.more_heading l.heading.items)) (terminals l.rest);
  shorter : length l.rest < length l.tokens;
}

abbrev pub decreases-variables : goal.decreases-variables
decreases-variables l = length l.rest
