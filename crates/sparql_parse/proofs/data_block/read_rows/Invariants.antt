use Rattle.std.proofs.Common.{◌<◌, length}
use Rattle.sparql_lexer.specs.Terminal.{terminals}
use Rattle.sparql_grammar.specs.Symbol as the
use Rattle.sparql_grammar.specs.Productions.{right_side}
use Rattle.sparql_expression.proofs.Steps.{Left}
use Rattle.sparql_parse.proofs.ValueSteps.{rows_of}
use Rattle.sparql_parse.proofs.data_block.read_rows.Given as goal

abbrev pub invariant-rows : goal.invariant-rows
invariant-rows l = record {
  left : Left l.names (the.rows l.heading.items) (terminals l.tokens) (the.more_rows l.heading.items (rows_of l.rows.items)) (λ v. v)
      (right_side (the.more_rows l.heading.items (rows_of l.rows.items))) (terminals l.rest);
  shorter : length l.rest < length l.tokens;
}

abbrev pub decreases-rows : goal.decreases-rows
decreases-rows l = length l.rest
