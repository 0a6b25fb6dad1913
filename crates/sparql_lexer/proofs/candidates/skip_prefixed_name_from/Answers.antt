use Rattle.sparql_lexer.proofs.ColonlessLaws.{clear_name}
use Rattle.sparql_lexer.proofs.candidates.skip_prefixed_name_from.Goals as goal

pub returns-then-end-text : goal.returns-then-end-text
returns-then-end-text c = clear_name c.args.text.now c.args.end.now c.requires c.if-end-text.true
