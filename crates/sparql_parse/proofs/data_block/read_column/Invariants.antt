use Rattle.std.proofs.Common.{◌≡◌, ◌<◌, length}
use Rattle.sparql_lexer.specs.Terminal.{terminals}
use Rattle.sparql_grammar.specs.Symbol as the
use Rattle.sparql_grammar.specs.Productions.{right_side}
use Rattle.sparql_expression.proofs.Steps.{Left}
use Rattle.sparql_parse.proofs.ValueSteps.{rows_of}
use Rattle.sparql_parse.proofs.data_block.read_column.Given as goal

abbrev pub invariant-cells : goal.invariant-cells
invariant-cells l = record {
  left : Left l.names (the.column l.fn.variable) (terminals l.tokens) (the.more_column l.fn.variable (rows_of l.rows.items)) (λ v. v)
      (right_side (the.more_column l.fn.variable (rows_of l.rows.items))) (terminals l.rest);
  same : l.variable ≡ l.fn.variable;
  shorter : length l.rest < length l.tokens;
}

abbrev pub decreases-cells : goal.decreases-cells
decreases-cells l = length l.rest
