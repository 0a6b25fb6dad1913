use Rattle.std.proofs.Common.{refl, sym}
use Rattle.sparql_lexer.specs.Terminal.{terminals}
use Rattle.sparql_grammar.specs.Class.{variable}
use Rattle.sparql_grammar.specs.Symbol as the
use Rattle.sparql_expression.specs.ParseResult.{seen}
use Rattle.sparql_expression.proofs.Steps.{begin, took, enter, take_fails, here, left, took_branch, skipped}
use Rattle.sparql_parse.proofs.FrontSteps.{some_taken, none_untaken}
use Rattle.sparql_parse.proofs.TripleSteps.{tail}
use Rattle.sparql_parse.proofs.ValueSteps.{selected_at}
use Rattle.sparql_parse.specs.Queries.{select_of}
use Rattle.sparql_parse.proofs.query.read_selected.Goals as goal

pub returns-in-Some : goal.returns-in-Some
returns-in-Some c = record { reads = tail (took_branch (begin c.args.names.now (the.select c.args.distinct) (terminals c.args.tokens.now)) (left here) (c.in-Some.ensures.accepts c.args.names.now)) (λ a. a) (λ v rest. refl) (λ e. refl) (seen select_of c.read_pattern.result) c.read_pattern.ensures.reads }

pub returns-in_default-2 : goal.returns-in_default-2
returns-in_default-2 c = record { reads = take_fails (skipped (begin c.args.names.now (the.select c.args.distinct) (terminals c.args.tokens.now)) (c.in_default.ensures.accepts c.args.names.now)) (none_untaken {c = variable} (c.in_ok-first.ensures.accepts c.args.names.now) c.in_default-2.is) }

pub variables-init : goal.variables-init
variables-init c = record { left = selected_at (sym c.in_ok-variables.ensures.items) (enter (took (skipped (begin c.args.names.now (the.select c.args.distinct) (terminals c.args.tokens.now)) (c.in_default.ensures.accepts c.args.names.now)) (some_taken {c = variable} (c.in_ok-first.ensures.accepts c.args.names.now) c.in-Some-2.is))) }

pub variables-preserved : goal.variables-preserved
variables-preserved c = record { left = selected_at (sym c.in_ok-push.ensures.items) (enter (took_branch c.variables.invariant.left (left here) (some_taken {c = variable} (c.in_ok-variable.ensures.accepts c.args.names.now) c.in-Some-3.is))) }

pub returns : goal.returns
returns c = record { reads = tail (skipped c.variables.invariant.left (none_untaken {c = variable} (c.in_ok-variable.ensures.accepts c.args.names.now) c.in_default-3.is)) (λ a. a) (λ v rest. refl) (λ e. refl) (seen select_of c.read_pattern-2.result) c.read_pattern-2.ensures.reads }
