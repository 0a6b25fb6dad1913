use Rattle.sparql_lexer.specs.Characters.{is_local_start}
use Rattle.sparql_lexer.specs.Pattern.{character}
use Rattle.sparql_lexer.specs.Names.{local_escape}
use Rattle.sparql_lexer.proofs.PatternLaws.{only_right, left_at, nowhere}
use Rattle.sparql_lexer.proofs.ProductionLaws.{start_or_escape}
use Rattle.sparql_lexer.proofs.names.skip_local_start.Goals as goal

pub returns-in-Some : goal.returns-in-Some
returns-in-Some c = left_at (character is_local_start) local_escape c.args.text.now c.in-Some.after.now (nowhere start_or_escape c.in-Some.ensures.matches) c.in-Some.ensures

pub returns : goal.returns
returns c = only_right (character is_local_start) local_escape c.args.text.now c.skip_local_escape.result c.in_default.ensures c.skip_local_escape.ensures
