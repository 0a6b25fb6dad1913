use Rattle.std.proofs.Common.{◌<◌, length}
use Rattle.sparql_lexer.specs.Terminal.{terminals}
use Rattle.sparql_grammar.specs.Symbol as the
use Rattle.sparql_grammar.specs.Productions.{right_side}
use Rattle.sparql_expression.proofs.Steps.{Left}
use Rattle.sparql_parse.proofs.triples.read_objects.Given as goal

abbrev pub invariant-objects : goal.invariant-objects
invariant-objects l = record {
  left : Left l.names (the.objects l.subject l.verb l.fn.triples.items) (terminals l.tokens) (the.more_objects l.subject l.verb l.triples.items) (λ v. v)
      (right_side (the.more_objects l.subject l.verb l.triples.items)) (terminals l.rest);
  shorter : length l.rest < length l.tokens;
}

abbrev pub decreases-objects : goal.decreases-objects
decreases-objects l = length l.rest
