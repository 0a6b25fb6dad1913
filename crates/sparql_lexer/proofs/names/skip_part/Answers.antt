use Rattle.sparql_lexer.specs.Characters.{is_local_part}
use Rattle.sparql_lexer.specs.Pattern.{character}
use Rattle.sparql_lexer.specs.Names.{local_escape}
use Rattle.sparql_lexer.proofs.PatternLaws.{only_right, left_at, nowhere}
use Rattle.sparql_lexer.proofs.ProductionLaws.{part_or_escape}
use Rattle.sparql_lexer.proofs.names.skip_part.Goals as goal

pub returns-in-Some : goal.returns-in-Some
returns-in-Some c = rw c.in-Local.is (left_at (character is_local_part) local_escape c.args.text.now c.in-Some.after.now (nowhere part_or_escape c.in-Some.ensures.matches) c.in-Some.ensures)

pub returns-in_default : goal.returns-in_default
returns-in_default c = rw c.in-Local.is (only_right (character is_local_part) local_escape c.args.text.now c.skip_local_escape.result c.in_default.ensures c.skip_local_escape.ensures)
