use Rattle.sparql_lexer.specs.Terminal.{terminals}
use Rattle.std.proofs.lemmas.Result.{err_from_is_err_and}
use Rattle.sparql_grammar.specs.Class.{reference}
use Rattle.sparql_grammar.specs.Symbol as the
use Rattle.sparql_expression.proofs.Steps.{begin, took, enter, take_fails, out_of_memory}
use Rattle.sparql_parse.proofs.FrontSteps.{some_taken, none_untaken}
use Rattle.sparql_parse.proofs.GroupSteps.{is_declaration}
use Rattle.sparql_parse.proofs.query.read_declaration.Goals as goal

pub returns-in_default-clause-reads : goal.returns-in_default-clause-reads
returns-in_default-clause-reads c = λ names. take_fails (begin names the.declared (terminals c.args.tokens.now)) (c.in_default.ensures.accepts names)

pub returns-in_default-2-clause-reads : goal.returns-in_default-2-clause-reads
returns-in_default-2-clause-reads c = λ names. take_fails (took (begin names the.declared (terminals c.args.tokens.now)) (c.in-Some.ensures.accepts names)) (none_untaken {c = reference} (c.in_ok-_iri.ensures.accepts names) c.in_default-2.is)

pub returns-clause-reads : goal.returns-clause-reads
returns-clause-reads c = λ names. is_declaration (enter (took (took (begin names the.declared (terminals c.args.tokens.now)) (c.in-Some.ensures.accepts names)) (some_taken {c = reference} (c.in_ok-_iri.ensures.accepts names) c.in-Some-2.is)))

-- ---- the exits with an error

pub returns-in_err-_iri-clause-reads : goal.returns-in_err-_iri-clause-reads
returns-in_err-_iri-clause-reads c = λ names. let p = err_from_is_err_and c.from_residual.result c.from_residual.ensures.1 in rw (p.1, p.2) out_of_memory

pub returns-in_err-_iri-clause-shorter : goal.returns-in_err-_iri-clause-shorter
returns-in_err-_iri-clause-shorter c = rw (err_from_is_err_and c.from_residual.result c.from_residual.ensures.1).1 tt
