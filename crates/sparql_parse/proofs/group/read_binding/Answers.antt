use Rattle.std.proofs.lemmas.Result.{err_from_is_err_and}
use Rattle.sparql_lexer.specs.Terminal.{terminals}
use Rattle.sparql_grammar.specs.Class.{variable}
use Rattle.sparql_grammar.specs.Symbol as the
use Rattle.sparql_expression.proofs.Steps.{begin, took, then_read, part_fails, done, take_fails, out_of_memory}
use Rattle.sparql_parse.proofs.FrontSteps.{some_taken, none_untaken}
use Rattle.sparql_parse.proofs.ElementSteps.{bind_seen}
use Rattle.sparql_parse.proofs.group.read_binding.Goals as goal

pub returns-in_default-clause-reads : goal.returns-in_default-clause-reads
returns-in_default-clause-reads c = take_fails (begin c.args.names.now (the.binding) (terminals c.args.tokens.now)) (c.in_default.ensures.accepts c.args.names.now)

pub returns-in_err-value-clause-reads : goal.returns-in_err-value-clause-reads
returns-in_err-value-clause-reads c = (let p = err_from_is_err_and c.from_residual.result c.from_residual.ensures.1 in rw (p.1, p.2) (part_fails (took (begin c.args.names.now (the.binding) (terminals c.args.tokens.now)) (c.in-Some.ensures.accepts c.args.names.now)) c.in_err-value.ensures.reads))

pub returns-in_default-accept_word-clause-reads : goal.returns-in_default-accept_word-clause-reads
returns-in_default-accept_word-clause-reads c = take_fails (then_read (took (begin c.args.names.now (the.binding) (terminals c.args.tokens.now)) (c.in-Some.ensures.accepts c.args.names.now)) c.in_ok-value.ensures.reads) (c.in_default-accept_word.ensures.accepts c.args.names.now)

pub returns-in_default-2-clause-reads : goal.returns-in_default-2-clause-reads
returns-in_default-2-clause-reads c = take_fails (took (then_read (took (begin c.args.names.now (the.binding) (terminals c.args.tokens.now)) (c.in-Some.ensures.accepts c.args.names.now)) c.in_ok-value.ensures.reads) (c.in-Some-accept_word.ensures.accepts c.args.names.now)) (none_untaken {c = variable} (c.in_ok-variable.ensures.accepts c.args.names.now) c.in_default-2.is)

pub returns-in_default-accept-clause-reads : goal.returns-in_default-accept-clause-reads
returns-in_default-accept-clause-reads c = take_fails (took (took (then_read (took (begin c.args.names.now (the.binding) (terminals c.args.tokens.now)) (c.in-Some.ensures.accepts c.args.names.now)) c.in_ok-value.ensures.reads) (c.in-Some-accept_word.ensures.accepts c.args.names.now)) (some_taken {c = variable} (c.in_ok-variable.ensures.accepts c.args.names.now) c.in-Some-2.is)) (c.in_default-accept.ensures.accepts c.args.names.now)

pub returns-clause-reads : goal.returns-clause-reads
returns-clause-reads c = done (took (took (took (then_read (took (begin c.args.names.now (the.binding) (terminals c.args.tokens.now)) (c.in-Some.ensures.accepts c.args.names.now)) c.in_ok-value.ensures.reads) (c.in-Some-accept_word.ensures.accepts c.args.names.now)) (some_taken {c = variable} (c.in_ok-variable.ensures.accepts c.args.names.now) c.in-Some-2.is)) (c.in-Some-accept.ensures.accepts c.args.names.now)) (bind_seen _ _)

-- ---- the exits with an error

pub returns-in_err-value-clause-shorter : goal.returns-in_err-value-clause-shorter
returns-in_err-value-clause-shorter c = rw (err_from_is_err_and c.from_residual.result c.from_residual.ensures.1).1 tt

pub returns-in_err-variable-clause-reads : goal.returns-in_err-variable-clause-reads
returns-in_err-variable-clause-reads c = let p = err_from_is_err_and c.from_residual-in_err-variable.result c.from_residual-in_err-variable.ensures.1 in rw (p.1, p.2) out_of_memory

pub returns-in_err-variable-clause-shorter : goal.returns-in_err-variable-clause-shorter
returns-in_err-variable-clause-shorter c = rw (err_from_is_err_and c.from_residual-in_err-variable.result c.from_residual-in_err-variable.ensures.1).1 tt
