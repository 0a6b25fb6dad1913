use Rattle.std.proofs.Common.{refl}
use Rattle.std.proofs.lemmas.Result.{err_from_is_err_and}
use Rattle.sparql_lexer.specs.Terminal.{terminals}
use Rattle.sparql_grammar.specs.Symbol as the
use Rattle.sparql_expression.specs.ParseResult.{seen}
use Rattle.sparql_expression.proofs.Steps.{begin, enter, here, left, took_branch, skipped}
use Rattle.sparql_parse.proofs.TripleSteps.{tail, whole}
use Rattle.sparql_parse.specs.Queries.{select_of}
use Rattle.sparql_parse.proofs.GroupSteps.{after_declaration}
use Rattle.sparql_parse.proofs.query.read_query.Goals as goal

pub returns-in_default : goal.returns-in_default
returns-in_default c = record { reads = tail (skipped (begin c.args.names.now (the.query) (terminals c.args.tokens.now)) (c.in_default.ensures.accepts c.args.names.now)) (λ a. a) (λ v rest. refl) (λ e. refl) (seen select_of c.read_select_query.result) c.read_select_query.ensures.reads }

pub returns-in_err-rest : goal.returns-in_err-rest
returns-in_err-rest c = (let p = err_from_is_err_and c.from_residual.result c.from_residual.ensures.1 in rw (p.1, p.2) record { reads = whole (enter (took_branch (begin c.args.names.now (the.query) (terminals c.args.tokens.now)) (left here) (c.in-Some.ensures.accepts c.args.names.now))) (c.in_err-rest.ensures.reads c.args.names.now) })

pub declarations-init : goal.declarations-init
declarations-init c = record { left = after_declaration (enter (took_branch (begin c.args.names.now (the.query) (terminals c.args.tokens.now)) (left here) (c.in-Some.ensures.accepts c.args.names.now))) (c.in_ok-rest.ensures.reads c.args.names.now) }

pub returns-in_err-rest-2 : goal.returns-in_err-rest-2
returns-in_err-rest-2 c = (let p = err_from_is_err_and c.from_residual-in_err-rest-2.result c.from_residual-in_err-rest-2.ensures.1 in rw (p.1, p.2) record { reads = whole (enter (took_branch c.declarations.invariant.left (left here) (c.in-Some-accept_word.ensures.accepts c.args.names.now))) (c.in_err-rest-2.ensures.reads c.args.names.now) })

pub declarations-preserved : goal.declarations-preserved
declarations-preserved c = record { left = after_declaration (enter (took_branch c.declarations.invariant.left (left here) (c.in-Some-accept_word.ensures.accepts c.args.names.now))) (c.in_ok-rest-2.ensures.reads c.args.names.now) }

pub returns : goal.returns
returns c = record { reads = tail (skipped c.declarations.invariant.left (c.in_default-accept_word.ensures.accepts c.args.names.now)) (λ a. a) (λ v rest. refl) (λ e. refl) (seen select_of c.read_select_query-2.result) c.read_select_query-2.ensures.reads }
