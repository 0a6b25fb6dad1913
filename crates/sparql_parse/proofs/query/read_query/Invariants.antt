use Rattle.std.proofs.Common.{length}
use Rattle.sparql_lexer.specs.Terminal.{terminals}
use Rattle.sparql_grammar.specs.Symbol as the
use Rattle.sparql_grammar.specs.Productions.{right_side}
use Rattle.sparql_expression.proofs.Steps.{Left}
use Rattle.sparql_parse.proofs.query.read_query.Given as goal

abbrev pub invariant-declarations : goal.invariant-declarations
invariant-declarations l = record {
  left : Left l.names the.query (terminals l.tokens) the.query (λ v. v) (right_side the.query) (terminals l.rest);
}

abbrev pub decreases-declarations : goal.decreases-declarations
decreases-declarations l = length l.rest
