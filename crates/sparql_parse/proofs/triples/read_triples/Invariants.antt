use Rattle.std.proofs.Common.{◌<◌, length}
use Rattle.sparql_lexer.specs.Terminal.{terminals}
use Rattle.sparql_grammar.specs.Symbol as the
use Rattle.sparql_grammar.specs.Productions.{right_side}
use Rattle.sparql_expression.proofs.Steps.{Left}
use Rattle.sparql_parse.proofs.triples.read_triples.Given as goal

abbrev pub invariant-subjects : goal.invariant-subjects
invariant-subjects l = record {
  left : Left l.names (the.triples l.fn.triples.items) (terminals l.tokens) (the.after_subject l.triples.items) (λ v. v)
      (right_side (the.after_subject l.triples.items)) (terminals l.rest);
  shorter : length l.rest < length l.tokens;
}

abbrev pub decreases-subjects : goal.decreases-subjects
decreases-subjects l = length l.rest
