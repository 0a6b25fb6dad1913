use Rattle.std.proofs.Common.{◌<◌, length}
use Rattle.sparql_lexer.specs.Terminal.{terminals}
use Rattle.sparql_grammar.specs.Symbol as the
use Rattle.sparql_grammar.specs.Productions.{right_side}
use Rattle.sparql_expression.proofs.Steps.{Left}
use Rattle.sparql_parse.proofs.data_block.read_row.Given as goal

abbrev pub invariant-cells : goal.invariant-cells
invariant-cells l = record {
  left : Left l.names the.row (terminals l.tokens) (the.more_cells l.cells.items) (λ v. v) (right_side (the.more_cells l.cells.items)) (terminals l.rest);
  shorter : length l.rest < length l.tokens;
}

abbrev pub decreases-cells : goal.decreases-cells
decreases-cells l = length l.rest
