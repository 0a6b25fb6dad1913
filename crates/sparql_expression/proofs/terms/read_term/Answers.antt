use Rattle.std.proofs.Common.{◌≡◌, refl}
use Rattle.std.proofs.lemmas.Result.{err_from_is_err_and}
use Rattle.sparql_lexer.specs.Terminal.{terminals}
use Rattle.sparql_grammar.specs.Symbol as the
use Rattle.sparql_expression.specs.ParseResult.{seen}
use Rattle.sparql_expression.proofs.Steps.{begin, took, took_branch, left, right, here, skipped, take_fails, done, last_same, mapped_same, out_of_memory}
use Rattle.sparql_expression.proofs.terms.read_term.Goals as goal

pub returns-in-Some-clause-reads : goal.returns-in-Some-clause-reads
returns-in-Some-clause-reads c =
    let names = c.args.names.now in
    let l = begin names the.term (terminals c.args.tokens.now) in
    done (took_branch l (left here) (rw c.in-Some.is at c.in_ok-iri.ensures.accepts)) refl

pub returns-in-Some-2-clause-reads : goal.returns-in-Some-2-clause-reads
returns-in-Some-2-clause-reads c =
    let names = c.args.names.now in
    let l = begin names the.term (terminals c.args.tokens.now) in
    done (took_branch l (right (left here)) (rw c.in-Some-2.is at (c.in_ok-number.ensures.accepts names))) refl

pub returns-in-Some-3-clause-reads : goal.returns-in-Some-3-clause-reads
returns-in-Some-3-clause-reads c =
    let names = c.args.names.now in
    let l = begin names the.term (terminals c.args.tokens.now) in
    done (took_branch l (right (right (left here))) (rw c.in-Some-3.is at (c.in_ok-boolean.ensures.accepts names))) refl

pub returns-in_default-4-clause-reads : goal.returns-in_default-4-clause-reads
returns-in_default-4-clause-reads c =
    let names = c.args.names.now in
    let l = begin names the.term (terminals c.args.tokens.now) in
    let l2 = skipped l (rw c.in_default.is at c.in_ok-iri.ensures.accepts) in
    let l3 = skipped l2 (rw c.in_default-2.is at (c.in_ok-number.ensures.accepts names)) in
    let l4 = skipped l3 (rw c.in_default-3.is at (c.in_ok-boolean.ensures.accepts names)) in
    take_fails l4 (rw c.in_default-4.is at (c.in_ok-string.ensures.accepts names))

pub returns-clause-reads : goal.returns-clause-reads
returns-clause-reads c =
    let names = c.args.names.now in
    let l = begin names the.term (terminals c.args.tokens.now) in
    let m = took_branch l (right (right (right here))) (rw c.in-Some-4.is at (c.in_ok-string.ensures.accepts names)) in
    last_same m c.read_literal.ensures.reads (mapped_same (seen (λ t. t) c.read_literal.result))

-- ---- the exits with an error

pub returns-in_err-iri-clause-reads : goal.returns-in_err-iri-clause-reads
returns-in_err-iri-clause-reads c = let p = err_from_is_err_and c.from_residual.result c.from_residual.ensures.1 in rw (p.1, p.2) out_of_memory

pub returns-in_err-iri-clause-shorter : goal.returns-in_err-iri-clause-shorter
returns-in_err-iri-clause-shorter c = rw (err_from_is_err_and c.from_residual.result c.from_residual.ensures.1).1 tt

pub returns-in_err-number-clause-reads : goal.returns-in_err-number-clause-reads
returns-in_err-number-clause-reads c = let p = err_from_is_err_and c.from_residual-in_err-number.result c.from_residual-in_err-number.ensures.1 in rw (p.1, p.2) out_of_memory

pub returns-in_err-number-clause-shorter : goal.returns-in_err-number-clause-shorter
returns-in_err-number-clause-shorter c = rw (err_from_is_err_and c.from_residual-in_err-number.result c.from_residual-in_err-number.ensures.1).1 tt

pub returns-in_err-boolean-clause-reads : goal.returns-in_err-boolean-clause-reads
returns-in_err-boolean-clause-reads c = let p = err_from_is_err_and c.from_residual-in_err-boolean.result c.from_residual-in_err-boolean.ensures.1 in rw (p.1, p.2) out_of_memory

pub returns-in_err-boolean-clause-shorter : goal.returns-in_err-boolean-clause-shorter
returns-in_err-boolean-clause-shorter c = rw (err_from_is_err_and c.from_residual-in_err-boolean.result c.from_residual-in_err-boolean.ensures.1).1 tt

pub returns-in_err-string-clause-reads : goal.returns-in_err-string-clause-reads
returns-in_err-string-clause-reads c = let p = err_from_is_err_and c.from_residual-in_err-string.result c.from_residual-in_err-string.ensures.1 in rw (p.1, p.2) out_of_memory

pub returns-in_err-string-clause-shorter : goal.returns-in_err-string-clause-shorter
returns-in_err-string-clause-shorter c = rw (err_from_is_err_and c.from_residual-in_err-string.result c.from_residual-in_err-string.ensures.1).1 tt
