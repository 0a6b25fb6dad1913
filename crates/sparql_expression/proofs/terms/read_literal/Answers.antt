use Rattle.std.proofs.Common.{◌≡◌}
use Rattle.std.proofs.lemmas.Result.{err_from_is_err_and}
use Rattle.sparql_lexer.specs.Terminal.{terminals}
use Rattle.sparql_grammar.specs.Symbol as the
use Rattle.sparql_expression.proofs.Steps.{begin, took, took_branch, left, right, here, skipped, take_fails, done, out_of_memory}
use Rattle.sparql_expression.proofs.terms.read_literal.Goals as goal

pub returns-in-Some-clause-reads : goal.returns-in-Some-clause-reads
returns-in-Some-clause-reads c =
    let names = c.args.names.now in
    let l = begin names (the.literal c.args.string) (terminals c.args.tokens.now) in
    done (took_branch l (left here) (rw c.in-Some.is at (c.in_ok-tag.ensures.accepts names))) c.in_ok-tagged.ensures

pub returns-in_default-accept-clause-reads : goal.returns-in_default-accept-clause-reads
returns-in_default-accept-clause-reads c =
    let names = c.args.names.now in
    let l = begin names (the.literal c.args.string) (terminals c.args.tokens.now) in
    let m = skipped l (rw c.in_default.is at (c.in_ok-tag.ensures.accepts names)) in
    done (skipped m (c.in_default-accept.ensures.accepts names)) c.in_ok-plain_string.ensures

pub returns-in_default-2-clause-reads : goal.returns-in_default-2-clause-reads
returns-in_default-2-clause-reads c =
    let names = c.args.names.now in
    let l = begin names (the.literal c.args.string) (terminals c.args.tokens.now) in
    take_fails (took_branch l (right (left here)) (c.in-Some-accept.ensures.accepts names)) (rw c.in_default-2.is at c.in_ok-datatype.ensures.accepts)

pub returns-clause-reads : goal.returns-clause-reads
returns-clause-reads c =
    let names = c.args.names.now in
    let l = begin names (the.literal c.args.string) (terminals c.args.tokens.now) in
    done (took (took_branch l (right (left here)) (c.in-Some-accept.ensures.accepts names)) (rw c.in-Some-2.is at c.in_ok-datatype.ensures.accepts)) c.plain.ensures

-- ---- the exits with an error

pub returns-in_err-tag-clause-reads : goal.returns-in_err-tag-clause-reads
returns-in_err-tag-clause-reads c = let p = err_from_is_err_and c.from_residual.result c.from_residual.ensures.1 in rw (p.1, p.2) out_of_memory

pub returns-in_err-tag-clause-shorter : goal.returns-in_err-tag-clause-shorter
returns-in_err-tag-clause-shorter c = rw (err_from_is_err_and c.from_residual.result c.from_residual.ensures.1).1 tt

pub returns-in_err-tagged-clause-reads : goal.returns-in_err-tagged-clause-reads
returns-in_err-tagged-clause-reads c = let p = err_from_is_err_and c.from_residual-in_err-tagged.result c.from_residual-in_err-tagged.ensures.1 in rw (p.1, p.2) out_of_memory

pub returns-in_err-tagged-clause-shorter : goal.returns-in_err-tagged-clause-shorter
returns-in_err-tagged-clause-shorter c = rw (err_from_is_err_and c.from_residual-in_err-tagged.result c.from_residual-in_err-tagged.ensures.1).1 tt

pub returns-in_err-plain_string-clause-reads : goal.returns-in_err-plain_string-clause-reads
returns-in_err-plain_string-clause-reads c = let p = err_from_is_err_and c.from_residual-in_err-plain_string.result c.from_residual-in_err-plain_string.ensures.1 in rw (p.1, p.2) out_of_memory

pub returns-in_err-plain_string-clause-shorter : goal.returns-in_err-plain_string-clause-shorter
returns-in_err-plain_string-clause-shorter c = rw (err_from_is_err_and c.from_residual-in_err-plain_string.result c.from_residual-in_err-plain_string.ensures.1).1 tt

pub returns-in_err-datatype-clause-reads : goal.returns-in_err-datatype-clause-reads
returns-in_err-datatype-clause-reads c = let p = err_from_is_err_and c.from_residual-in_err-datatype.result c.from_residual-in_err-datatype.ensures.1 in rw (p.1, p.2) out_of_memory

pub returns-in_err-datatype-clause-shorter : goal.returns-in_err-datatype-clause-shorter
returns-in_err-datatype-clause-shorter c = rw (err_from_is_err_and c.from_residual-in_err-datatype.result c.from_residual-in_err-datatype.ensures.1).1 tt
