use Rattle.std.proofs.Common.{refl}
use Rattle.sparql_lexer.specs.Terminal.{terminals}
use Rattle.sparql_grammar.specs.Symbol as the
use Rattle.sparql_expression.proofs.Steps.{begin, took, take_fails, done, here, left, took_branch, skipped}
use Rattle.sparql_parse.proofs.query.read_limit.Goals as goal

pub returns-in_default : goal.returns-in_default
returns-in_default c = record { reads = λ names. done (skipped (begin names (the.after_offset c.args.offset) (terminals c.args.tokens.now)) (c.in_default.ensures.accepts names)) refl }

pub returns-in_default-accept_count : goal.returns-in_default-accept_count
returns-in_default-accept_count c = record { reads = λ names. take_fails (took_branch (begin names (the.after_offset c.args.offset) (terminals c.args.tokens.now)) (left here) (c.in-Some.ensures.accepts names)) (c.in_default-accept_count.ensures.accepts names) }

pub returns : goal.returns
returns c = record { reads = λ names. done (took (took_branch (begin names (the.after_offset c.args.offset) (terminals c.args.tokens.now)) (left here) (c.in-Some.ensures.accepts names)) (c.in-Some-accept_count.ensures.accepts names)) refl }
