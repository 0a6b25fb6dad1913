use Rattle.std.proofs.Common.{refl}
use Rattle.std.proofs.lemmas.Result.{err_from_is_err_and}
use Rattle.sparql_lexer.specs.Terminal.{terminals}
use Rattle.sparql_grammar.specs.Symbol as the
use Rattle.sparql_expression.proofs.Steps.{begin, part_fails, enter, done, here, left, took_branch, skipped}
use Rattle.sparql_parse.proofs.TripleSteps.{object_read, shorter_thrice}
use Rattle.sparql_parse.proofs.triples.read_objects.Goals as goal

pub returns-in_err-rest-clause-reads : goal.returns-in_err-rest-clause-reads
returns-in_err-rest-clause-reads c =
    let p = err_from_is_err_and c.from_residual.result c.from_residual.ensures.1 in
    rw (p.1, p.2) (part_fails (begin c.args.names.now (the.objects c.args.subject.now c.args.verb.now c.args.triples.now.items) (terminals c.args.tokens.now)) c.in_err-rest.ensures.reads)

pub objects-init : goal.objects-init
objects-init c = record {
  left = object_read (begin c.args.names.now (the.objects c.args.subject.now c.args.verb.now c.args.triples.now.items) (terminals c.args.tokens.now)) c.in_ok-rest.ensures.reads;
  shorter = c.in_ok-rest.ensures.shorter;
}

pub returns-in_err-rest-2-clause-reads : goal.returns-in_err-rest-2-clause-reads
returns-in_err-rest-2-clause-reads c =
    let l = c.objects.invariant.left in
    let p = err_from_is_err_and c.from_residual-in_err-rest-2.result c.from_residual-in_err-rest-2.ensures.1 in
    rw (p.1, p.2) (part_fails (enter (took_branch l (left here) (c.in-Some.ensures.accepts c.args.names.now))) c.in_err-rest-2.ensures.reads)

pub objects-preserved : goal.objects-preserved
objects-preserved c =
    let l = c.objects.invariant.left in
    record {
      left = object_read (enter (took_branch l (left here) (c.in-Some.ensures.accepts c.args.names.now))) c.in_ok-rest-2.ensures.reads;
      shorter = shorter_thrice c.in_ok-rest-2.ensures.shorter c.in-Some.ensures.shorter c.objects.invariant.shorter;
    }

pub returns-clause-reads : goal.returns-clause-reads
returns-clause-reads c =
    let l = c.objects.invariant.left in
    done (skipped l (c.in_default.ensures.accepts c.args.names.now)) refl

-- ---- the exits with an error

pub returns-in_err-rest-2-clause-shorter : goal.returns-in_err-rest-2-clause-shorter
returns-in_err-rest-2-clause-shorter c = rw (err_from_is_err_and c.from_residual-in_err-rest-2.result c.from_residual-in_err-rest-2.ensures.1).1 tt

pub returns-in_err-rest-clause-shorter : goal.returns-in_err-rest-clause-shorter
returns-in_err-rest-clause-shorter c = rw (err_from_is_err_and c.from_residual.result c.from_residual.ensures.1).1 tt
