use Rattle.std.proofs.Common.{refl}
use Rattle.sparql_lexer.specs.Terminal.{terminals}
use Rattle.sparql_grammar.specs.Symbol as the
use Rattle.sparql_expression.specs.ParseResult.{seen}
use Rattle.sparql_expression.proofs.Steps.{begin, took, take_fails, here, left, took_branch, skipped}
use Rattle.sparql_parse.proofs.TripleSteps.{tail}
use Rattle.sparql_parse.specs.Queries.{select_of}
use Rattle.sparql_parse.proofs.query.read_select_query.Goals as goal

pub returns-in_default : goal.returns-in_default
returns-in_default c = record { reads = take_fails (begin c.args.names.now (the.select_query) (terminals c.args.tokens.now)) (c.in_default.ensures.accepts c.args.names.now) }

pub returns-in_default-accept_word : goal.returns-in_default-accept_word
returns-in_default-accept_word c = record { reads = tail (skipped (took (begin c.args.names.now (the.select_query) (terminals c.args.tokens.now)) (c.in-Some.ensures.accepts c.args.names.now)) (c.in_default-accept_word.ensures.accepts c.args.names.now)) (λ a. a) (λ v rest. refl) (λ e. refl) (seen select_of c.read_selected.result) c.read_selected.ensures.reads }

pub returns : goal.returns
returns c = record { reads = tail (took_branch (took (begin c.args.names.now (the.select_query) (terminals c.args.tokens.now)) (c.in-Some.ensures.accepts c.args.names.now)) (left here) (c.in-Some-accept_word.ensures.accepts c.args.names.now)) (λ a. a) (λ v rest. refl) (λ e. refl) (seen select_of c.read_selected-2.result) c.read_selected-2.ensures.reads }
