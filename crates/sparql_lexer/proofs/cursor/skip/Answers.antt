use Rattle.sparql_lexer.specs.Classes.{members}
use Rattle.sparql_lexer.specs.Pattern.{character}
use Rattle.sparql_lexer.proofs.PatternLaws.{sure_character, run_more, run_ends}
use Rattle.sparql_lexer.proofs.cursor.skip.Goals as goal

pub run-preserved : goal.run-preserved
run-preserved c = λ end h. c.run.invariant end (run_more (character (members c.args.class)) (sure_character (members c.args.class)) c.in-Some.ensures.matches h)

pub returns : goal.returns
returns c = c.run.invariant c.run.rest.now (run_ends (character (members c.args.class)) c.run.rest.now c.in_default.ensures)
