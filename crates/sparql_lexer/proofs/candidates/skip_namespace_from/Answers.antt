use Rattle.sparql_lexer.proofs.ColonlessLaws.{clear_namespace}
use Rattle.sparql_lexer.proofs.candidates.skip_namespace_from.Goals as goal

pub returns-then-end-text : goal.returns-then-end-text
returns-then-end-text c = clear_namespace c.args.text.now c.args.end.now c.requires c.if-end-text.true
