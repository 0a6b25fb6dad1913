use Rattle.std.proofs.Common.{Some}
use Rattle.sparql_lexer.specs.Classes.{members}
use Rattle.sparql_lexer.specs.Pattern.{character, many}
use Rattle.sparql_lexer.proofs.PatternLaws.{sure_character, then_sure}
use Rattle.sparql_lexer.proofs.cursor.skip_some.Goals as goal

pub returns : goal.returns
returns c = then_sure (many (character (members c.args.class))) (Some c.skip.result) (sure_character (members c.args.class)) c.in_ok-after.ensures.matches c.skip.ensures
