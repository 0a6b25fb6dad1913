use Rattle.std.proofs.Common.{refl}
use Rattle.std.proofs.lemmas.Result.{err_from_is_err_and}
use Rattle.sparql_lexer.specs.Terminal.{terminals}
use Rattle.sparql_tree.specs.GroupTree.{element_of}
use Rattle.sparql_grammar.specs.Symbol as the
use Rattle.sparql_expression.specs.ParseResult.{seen}
use Rattle.sparql_expression.proofs.Steps.{begin, took, last_reads, last_fails, take_fails, here, left, right, took_branch, skipped}
use Rattle.sparql_parse.proofs.TripleSteps.{tail}
use Rattle.sparql_parse.proofs.ElementSteps.{filter_seen}
use Rattle.sparql_parse.proofs.group.read_simple.Goals as goal

pub returns-in_err-condition-clause-reads : goal.returns-in_err-condition-clause-reads
returns-in_err-condition-clause-reads c = (let p = err_from_is_err_and c.from_residual.result c.from_residual.ensures.1 in rw (p.1, p.2) (last_fails (took_branch (begin c.args.names.now (the.simple) (terminals c.args.tokens.now)) (left here) (c.in-Some.ensures.accepts c.args.names.now)) c.in_err-condition.ensures.reads))

pub returns-in-Some-clause-reads : goal.returns-in-Some-clause-reads
returns-in-Some-clause-reads c = last_reads (took_branch (begin c.args.names.now (the.simple) (terminals c.args.tokens.now)) (left here) (c.in-Some.ensures.accepts c.args.names.now)) c.in_ok-condition.ensures.reads (filter_seen _)

pub returns-in-Some-accept_word-clause-reads : goal.returns-in-Some-accept_word-clause-reads
returns-in-Some-accept_word-clause-reads c = tail (took_branch (begin c.args.names.now (the.simple) (terminals c.args.tokens.now)) (right (left here)) (c.in-Some-accept_word.ensures.accepts c.args.names.now)) (λ a. a) (λ v rest. refl) (λ e. refl) (seen element_of c.read_binding.result) c.read_binding.ensures.reads

pub returns-in_default-accept_word-2-clause-reads : goal.returns-in_default-accept_word-2-clause-reads
returns-in_default-accept_word-2-clause-reads c = take_fails (skipped (skipped (begin c.args.names.now (the.simple) (terminals c.args.tokens.now)) (c.in_default.ensures.accepts c.args.names.now)) (c.in_default-accept_word.ensures.accepts c.args.names.now)) (c.in_default-accept_word-2.ensures.accepts c.args.names.now)

pub returns-clause-reads : goal.returns-clause-reads
returns-clause-reads c = tail (took (skipped (skipped (begin c.args.names.now (the.simple) (terminals c.args.tokens.now)) (c.in_default.ensures.accepts c.args.names.now)) (c.in_default-accept_word.ensures.accepts c.args.names.now)) (c.in-Some-accept_word-2.ensures.accepts c.args.names.now)) (λ a. a) (λ v rest. refl) (λ e. refl) (seen element_of c.read_data_block.result) c.read_data_block.ensures.reads

-- ---- the exits with an error

pub returns-in_err-condition-clause-shorter : goal.returns-in_err-condition-clause-shorter
returns-in_err-condition-clause-shorter c = rw (err_from_is_err_and c.from_residual.result c.from_residual.ensures.1).1 tt
