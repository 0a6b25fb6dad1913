use Rattle.sparql_lexer.specs.Terminal.{terminals}
use Rattle.sparql_grammar.specs.Symbol as the
use Rattle.sparql_expression.proofs.Steps.{begin, enter, here, left, took_branch, skipped}
use Rattle.sparql_parse.proofs.GroupSteps.{is_after_dot}
use Rattle.sparql_parse.proofs.group.skip_dot.Goals as goal

pub returns-in_default-clause-reads : goal.returns-in_default-clause-reads
returns-in_default-clause-reads c = is_after_dot (λ names es. enter (skipped (begin names (the.after_other es) (terminals c.args.tokens.now)) (c.in_default.ensures.accepts names)))

pub returns-clause-reads : goal.returns-clause-reads
returns-clause-reads c = is_after_dot (λ names es. enter (took_branch (begin names (the.after_other es) (terminals c.args.tokens.now)) (left here) (c.in-Some.ensures.accepts names)))
