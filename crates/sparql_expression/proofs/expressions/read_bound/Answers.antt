use Rattle.std.proofs.Common.{◌≡◌}
use Rattle.std.proofs.lemmas.Result.{err_from_is_err_and}
use Rattle.sparql_lexer.specs.Terminal.{terminals}
use Rattle.sparql_grammar.specs.Symbol as the
use Rattle.sparql_expression.proofs.Steps.{begin, took, take_fails, done, out_of_memory}
use Rattle.sparql_expression.proofs.NodeSteps.{bound_seen}
use Rattle.sparql_expression.proofs.expressions.read_bound.Goals as goal

pub returns-in_default-clause-reads : goal.returns-in_default-clause-reads
returns-in_default-clause-reads c = λ names. take_fails (begin names the.bound (terminals c.args.tokens.now)) (c.in_default.ensures.accepts names)

pub returns-in_default-2-clause-reads : goal.returns-in_default-2-clause-reads
returns-in_default-2-clause-reads c = λ names.
    let l = took (begin names the.bound (terminals c.args.tokens.now)) (c.in-Some.ensures.accepts names) in
    take_fails l (rw c.in_default-2.is at (c.in_ok-name.ensures.accepts names))

pub returns-in_default-accept-clause-reads : goal.returns-in_default-accept-clause-reads
returns-in_default-accept-clause-reads c = λ names.
    let l = took (begin names the.bound (terminals c.args.tokens.now)) (c.in-Some.ensures.accepts names) in
    take_fails (took l (rw c.in-Some-2.is at (c.in_ok-name.ensures.accepts names))) (c.in_default-accept.ensures.accepts names)

pub returns-clause-reads : goal.returns-clause-reads
returns-clause-reads c = λ names.
    let l = took (begin names the.bound (terminals c.args.tokens.now)) (c.in-Some.ensures.accepts names) in
    done (took (took l (rw c.in-Some-2.is at (c.in_ok-name.ensures.accepts names))) (c.in-Some-accept.ensures.accepts names)) (bound_seen _)

-- ---- the exits with an error

pub returns-in_err-name-clause-reads : goal.returns-in_err-name-clause-reads
returns-in_err-name-clause-reads c = λ names. let p = err_from_is_err_and c.from_residual.result c.from_residual.ensures.1 in rw (p.1, p.2) out_of_memory

pub returns-in_err-name-clause-shorter : goal.returns-in_err-name-clause-shorter
returns-in_err-name-clause-shorter c = rw (err_from_is_err_and c.from_residual.result c.from_residual.ensures.1).1 tt
