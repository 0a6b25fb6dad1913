use Rattle.std.proofs.Common.{refl}
use Rattle.std.proofs.lemmas.Result.{err_from_is_err_and}
use Rattle.sparql_lexer.specs.Terminal.{terminals}
use Rattle.sparql_grammar.specs.Symbol as the
use Rattle.sparql_expression.proofs.Steps.{begin, then_read, part_fails}
use Rattle.sparql_parse.specs.Seen.{seen_out}
use Rattle.sparql_parse.proofs.TripleSteps.{tail}
use Rattle.sparql_parse.proofs.triples.read_property.Goals as goal

pub returns-in_err-verb-clause-reads : goal.returns-in_err-verb-clause-reads
returns-in_err-verb-clause-reads c =
    let p = err_from_is_err_and c.from_residual.result c.from_residual.ensures.1 in
    rw (p.1, p.2) (part_fails (begin c.args.names.now (the.property c.args.subject.now c.args.triples.now.items) (terminals c.args.tokens.now)) c.in_err-verb.ensures.reads)

pub returns-clause-reads : goal.returns-clause-reads
returns-clause-reads c =
    let l = then_read (begin c.args.names.now (the.property c.args.subject.now c.args.triples.now.items) (terminals c.args.tokens.now)) c.in_ok-verb.ensures.reads in
    tail l (λ a. a) (λ v rest. refl) (λ e. refl) (seen_out c.read_objects.new.triples.items c.read_objects.result) c.read_objects.ensures.reads

-- ---- the exits with an error

pub returns-in_err-verb-clause-shorter : goal.returns-in_err-verb-clause-shorter
returns-in_err-verb-clause-shorter c = rw (err_from_is_err_and c.from_residual.result c.from_residual.ensures.1).1 tt
