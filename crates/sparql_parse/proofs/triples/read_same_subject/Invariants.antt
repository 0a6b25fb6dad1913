use Rattle.std.proofs.Common.{◌<◌, length}
use Rattle.sparql_lexer.specs.Terminal.{terminals}
use Rattle.sparql_grammar.specs.Symbol as the
use Rattle.sparql_grammar.specs.Productions.{right_side}
use Rattle.sparql_expression.proofs.Steps.{Left}
use Rattle.sparql_parse.proofs.triples.read_same_subject.Given as goal

abbrev pub invariant-properties : goal.invariant-properties
invariant-properties l = record {
  left : Left l.names (the.same_subject l.fn.triples.items) (terminals l.tokens) (the.more_properties l.subject l.triples.items) (λ v. v)
      (right_side (the.more_properties l.subject l.triples.items)) (terminals l.rest);
  shorter : length l.rest < length l.tokens;
}

abbrev pub decreases-properties : goal.decreases-properties
decreases-properties l = length l.rest
