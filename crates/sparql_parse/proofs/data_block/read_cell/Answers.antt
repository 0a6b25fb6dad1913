use Rattle.std.proofs.Common.{refl}
use Rattle.std.proofs.lemmas.Result.{err_from_is_err_and}
use Rattle.sparql_lexer.specs.Terminal.{terminals}
use Rattle.sparql_grammar.specs.Symbol as the
use Rattle.sparql_expression.proofs.Steps.{begin, last_reads, last_fails, done, here, left, took_branch, skipped}
use Rattle.sparql_parse.proofs.data_block.read_cell.Goals as goal

pub returns-in-Some-clause-reads : goal.returns-in-Some-clause-reads
returns-in-Some-clause-reads c =
    let l = begin c.args.names.now the.cell (terminals c.args.tokens.now) in
    done (took_branch l (left here) (c.in-Some.ensures.accepts c.args.names.now)) refl

pub returns-in_err-term-clause-reads : goal.returns-in_err-term-clause-reads
returns-in_err-term-clause-reads c =
    let l = begin c.args.names.now the.cell (terminals c.args.tokens.now) in
    let p = err_from_is_err_and c.from_residual.result c.from_residual.ensures.1 in
    rw (p.1, p.2) (last_fails (skipped l (c.in_default.ensures.accepts c.args.names.now)) c.in_err-term.ensures.reads)

pub returns-clause-reads : goal.returns-clause-reads
returns-clause-reads c =
    let l = begin c.args.names.now the.cell (terminals c.args.tokens.now) in
    last_reads (skipped l (c.in_default.ensures.accepts c.args.names.now)) c.in_ok-term.ensures.reads refl

-- ---- the exits with an error

pub returns-in_err-term-clause-shorter : goal.returns-in_err-term-clause-shorter
returns-in_err-term-clause-shorter c = rw (err_from_is_err_and c.from_residual.result c.from_residual.ensures.1).1 tt
