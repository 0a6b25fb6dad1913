use Rattle.std.proofs.Common.{refl}
use Rattle.sparql_lexer.specs.Terminal.{terminals}
use Rattle.sparql_grammar.specs.Symbol as the
use Rattle.sparql_expression.specs.ParseResult.{seen}
use Rattle.sparql_expression.proofs.Steps.{begin, took, take_fails, done, here, left, right, took_branch, skipped, last_same, mapped_same}
use Rattle.sparql_parse.proofs.query.read_modifiers.Goals as goal

pub returns-in_default-accept_count : goal.returns-in_default-accept_count
returns-in_default-accept_count c = record { reads = λ names. take_fails (took_branch (begin names the.modifiers (terminals c.args.tokens.now)) (left here) (c.in-Some.ensures.accepts names)) (c.in_default-accept_count.ensures.accepts names) }

pub returns-in-Some : goal.returns-in-Some
returns-in-Some c = record { reads = λ names. last_same (took (took_branch (begin names the.modifiers (terminals c.args.tokens.now)) (left here) (c.in-Some.ensures.accepts names)) (c.in-Some-accept_count.ensures.accepts names)) (c.read_offset.ensures.reads names) (mapped_same (seen (λ v. v) c.read_offset.result)) }

pub returns-in_default-accept_word : goal.returns-in_default-accept_word
returns-in_default-accept_word c = record { reads = λ names. done (skipped (skipped (begin names the.modifiers (terminals c.args.tokens.now)) (c.in_default.ensures.accepts names)) (c.in_default-accept_word.ensures.accepts names)) refl }

pub returns-in_default-accept_count-2 : goal.returns-in_default-accept_count-2
returns-in_default-accept_count-2 c = record { reads = λ names. take_fails (took_branch (begin names the.modifiers (terminals c.args.tokens.now)) (right (left here)) (c.in-Some-accept_word.ensures.accepts names)) (c.in_default-accept_count-2.ensures.accepts names) }

pub returns : goal.returns
returns c = record { reads = λ names. last_same (took (took_branch (begin names the.modifiers (terminals c.args.tokens.now)) (right (left here)) (c.in-Some-accept_word.ensures.accepts names)) (c.in-Some-accept_count-2.ensures.accepts names)) (c.read_limit.ensures.reads names) (mapped_same (seen (λ v. v) c.read_limit.result)) }
