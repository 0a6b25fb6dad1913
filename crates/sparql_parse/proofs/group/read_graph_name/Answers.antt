use Rattle.std.proofs.Common.{refl}
use Rattle.std.proofs.lemmas.Result.{err_from_is_err_and}
use Rattle.sparql_lexer.specs.Terminal.{terminals}
use Rattle.sparql_grammar.specs.Class.{variable, name}
use Rattle.sparql_grammar.specs.Symbol as the
use Rattle.sparql_expression.proofs.Steps.{begin, took, done, take_fails, here, left, took_branch, skipped, out_of_memory}
use Rattle.sparql_parse.proofs.FrontSteps.{some_taken, none_untaken}
use Rattle.sparql_parse.proofs.group.read_graph_name.Goals as goal

pub returns-in-Some-clause-reads : goal.returns-in-Some-clause-reads
returns-in-Some-clause-reads c =
    let l = begin c.args.names.now the.graph_name (terminals c.args.tokens.now) in
    done (took_branch l (left here) (some_taken {c = variable} (c.in_ok-name.ensures.accepts c.args.names.now) c.in-Some.is)) refl

pub returns-in_default-2-clause-reads : goal.returns-in_default-2-clause-reads
returns-in_default-2-clause-reads c =
    let l = begin c.args.names.now the.graph_name (terminals c.args.tokens.now) in
    let m = skipped l (none_untaken {c = variable} (c.in_ok-name.ensures.accepts c.args.names.now) c.in_default.is) in
    take_fails m (none_untaken {c = name} c.in_ok-iri.ensures.accepts c.in_default-2.is)

pub returns-clause-reads : goal.returns-clause-reads
returns-clause-reads c =
    let l = begin c.args.names.now the.graph_name (terminals c.args.tokens.now) in
    let m = skipped l (none_untaken {c = variable} (c.in_ok-name.ensures.accepts c.args.names.now) c.in_default.is) in
    done (took m (some_taken {c = name} c.in_ok-iri.ensures.accepts c.in-Some-2.is)) refl

-- ---- the exits with an error

pub returns-in_err-iri-clause-reads : goal.returns-in_err-iri-clause-reads
returns-in_err-iri-clause-reads c = let p = err_from_is_err_and c.from_residual-in_err-iri.result c.from_residual-in_err-iri.ensures.1 in rw (p.1, p.2) out_of_memory

pub returns-in_err-iri-clause-shorter : goal.returns-in_err-iri-clause-shorter
returns-in_err-iri-clause-shorter c = rw (err_from_is_err_and c.from_residual-in_err-iri.result c.from_residual-in_err-iri.ensures.1).1 tt

pub returns-in_err-name-clause-reads : goal.returns-in_err-name-clause-reads
returns-in_err-name-clause-reads c = let p = err_from_is_err_and c.from_residual.result c.from_residual.ensures.1 in rw (p.1, p.2) out_of_memory

pub returns-in_err-name-clause-shorter : goal.returns-in_err-name-clause-shorter
returns-in_err-name-clause-shorter c = rw (err_from_is_err_and c.from_residual.result c.from_residual.ensures.1).1 tt
