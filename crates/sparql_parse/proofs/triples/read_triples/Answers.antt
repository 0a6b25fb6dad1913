use Rattle.std.proofs.Common.{refl, sym}
use Rattle.std.proofs.lemmas.Result.{err_from_is_err_and}
use Rattle.sparql_lexer.specs.Terminal.{terminals}
use Rattle.sparql_grammar.specs.Symbol as the
use Rattle.sparql_expression.proofs.Steps.{begin, then_read, part_fails, enter, done, here, left, branch, took_branch, skipped, passed_by}
use Rattle.sparql_parse.proofs.TripleSteps.{shorter_thrice}
use Rattle.sparql_parse.proofs.triples.read_triples.Goals as goal

pub returns-in_err-rest-clause-reads : goal.returns-in_err-rest-clause-reads
returns-in_err-rest-clause-reads c =
    let p = err_from_is_err_and c.from_residual.result c.from_residual.ensures.1 in
    rw (p.1, p.2) (part_fails (begin c.args.names.now (the.triples c.args.triples.now.items) (terminals c.args.tokens.now)) c.in_err-rest.ensures.reads)

pub subjects-init : goal.subjects-init
subjects-init c = record {
  left = enter (then_read (begin c.args.names.now (the.triples c.args.triples.now.items) (terminals c.args.tokens.now)) c.in_ok-rest.ensures.reads);
  shorter = c.in_ok-rest.ensures.shorter;
}

pub returns-then-not-starts_place-clause-reads : goal.returns-then-not-starts_place-clause-reads
returns-then-not-starts_place-clause-reads c =
    let m = enter (took_branch c.subjects.invariant.left (left here) (c.in-Some.ensures.accepts c.args.names.now)) in
    done (passed_by m refl (sym c.if-not-starts_place.ensures.value)) refl

pub returns-in_err-rest-2-clause-reads : goal.returns-in_err-rest-2-clause-reads
returns-in_err-rest-2-clause-reads c =
    let m = enter (took_branch c.subjects.invariant.left (left here) (c.in-Some.ensures.accepts c.args.names.now)) in
    let p = err_from_is_err_and c.from_residual-in_err-rest-2.result c.from_residual-in_err-rest-2.ensures.1 in
    rw (p.1, p.2) (part_fails (enter (branch m (left here) (sym c.if-not-starts_place.ensures.value))) c.in_err-rest-2.ensures.reads)

pub subjects-preserved : goal.subjects-preserved
subjects-preserved c =
    let m = enter (took_branch c.subjects.invariant.left (left here) (c.in-Some.ensures.accepts c.args.names.now)) in
    record {
      left = enter (then_read (enter (branch m (left here) (sym c.if-not-starts_place.ensures.value))) c.in_ok-rest-2.ensures.reads);
      shorter = shorter_thrice c.in_ok-rest-2.ensures.shorter c.in-Some.ensures.shorter c.subjects.invariant.shorter;
    }

pub returns-clause-reads : goal.returns-clause-reads
returns-clause-reads c =
    let l = c.subjects.invariant.left in
    done (skipped l (c.in_default.ensures.accepts c.args.names.now)) refl

-- ---- the exits with an error

pub returns-in_err-rest-2-clause-shorter : goal.returns-in_err-rest-2-clause-shorter
returns-in_err-rest-2-clause-shorter c = rw (err_from_is_err_and c.from_residual-in_err-rest-2.result c.from_residual-in_err-rest-2.ensures.1).1 tt

pub returns-in_err-rest-clause-shorter : goal.returns-in_err-rest-clause-shorter
returns-in_err-rest-clause-shorter c = rw (err_from_is_err_and c.from_residual.result c.from_residual.ensures.1).1 tt
