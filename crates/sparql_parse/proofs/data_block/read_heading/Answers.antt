use Rattle.std.proofs.Common.{refl, sym}
use Rattle.std.proofs.lemmas.Result.{err_from_is_err_and}
use Rattle.sparql_lexer.specs.Terminal.{terminals}
use Rattle.sparql_grammar.specs.Class.{variable}
use Rattle.sparql_grammar.specs.Symbol as the
use Rattle.sparql_expression.proofs.Steps.{begin, took, enter, done, take_fails, here, left, right, took_branch, skipped, out_of_memory}
use Rattle.sparql_parse.proofs.FrontSteps.{some_taken, none_untaken, some_shorter}
use Rattle.sparql_parse.proofs.TripleSteps.{shorter_twice}
use Rattle.sparql_parse.proofs.ValueSteps.{heading_at}
use Rattle.sparql_parse.proofs.data_block.read_heading.Goals as goal

pub returns-in_default-clause-reads : goal.returns-in_default-clause-reads
returns-in_default-clause-reads c = λ names. take_fails (begin names the.heading (terminals c.args.tokens.now)) (c.in_default.ensures.accepts names)

pub variables-init : goal.variables-init
variables-init c = record {
  left = λ names. heading_at (sym c.new-heading.ensures.items) (enter (took (begin names the.heading (terminals c.args.tokens.now)) (c.in-Some.ensures.accepts names)));
  shorter = c.in-Some.ensures.shorter;
}

pub variables-preserved : goal.variables-preserved
variables-preserved c = record {
  left = λ names. heading_at (sym c.in_ok-push.ensures.items) (enter (took_branch (c.variables.invariant.left names) (right here) (some_taken {c = variable} (c.in_ok-variable.ensures.accepts names) c.in-Some-2.is)));
  shorter = shorter_twice (some_shorter c.in_ok-variable.ensures.shorter c.in-Some-2.is) c.variables.invariant.shorter;
}

pub returns-in_default-accept-clause-reads : goal.returns-in_default-accept-clause-reads
returns-in_default-accept-clause-reads c = λ names. take_fails (skipped (c.variables.invariant.left names) (c.in_default-accept.ensures.accepts names)) (none_untaken {c = variable} (c.in_ok-variable.ensures.accepts names) c.in_default-2.is)

pub returns-clause-reads : goal.returns-clause-reads
returns-clause-reads c = λ names. done (took_branch (c.variables.invariant.left names) (left here) (c.in-Some-accept.ensures.accepts names)) refl

-- ---- the exits with an error

pub returns-in_err-push-clause-reads : goal.returns-in_err-push-clause-reads
returns-in_err-push-clause-reads c = λ names. let p = err_from_is_err_and c.from_residual-in_err-push.result c.from_residual-in_err-push.ensures.1 in rw (p.1, p.2) out_of_memory

pub returns-in_err-push-clause-shorter : goal.returns-in_err-push-clause-shorter
returns-in_err-push-clause-shorter c = rw (err_from_is_err_and c.from_residual-in_err-push.result c.from_residual-in_err-push.ensures.1).1 tt

pub returns-in_err-variable-clause-reads : goal.returns-in_err-variable-clause-reads
returns-in_err-variable-clause-reads c = λ names. let p = err_from_is_err_and c.from_residual.result c.from_residual.ensures.1 in rw (p.1, p.2) out_of_memory

pub returns-in_err-variable-clause-shorter : goal.returns-in_err-variable-clause-shorter
returns-in_err-variable-clause-shorter c = rw (err_from_is_err_and c.from_residual.result c.from_residual.ensures.1).1 tt
