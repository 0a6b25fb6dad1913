use Rattle.sparql_lexer.proofs.ColonlessLaws.{run_goes_on}
use Rattle.sparql_lexer.proofs.names.run_end.Goals as goal

pub returns-then-end-place : goal.returns-then-end-place
returns-then-end-place c = λ text b h. run_goes_on text c.args.place.now c.args.end.now b c.if-end-place.true h
