use Rattle.sparql_lexer.proofs.ColonlessLaws.{dot_suffix}
use Rattle.sparql_lexer.proofs.names.ends_with_dot.Goals as goal

pub returns-then-end-text : goal.returns-then-end-text
returns-then-end-text c = λ e. dot_suffix c.index-text-text.result c.requires c.if-end-text.true c.index-text-text.is e
