use Rattle.sparql_lexer.specs.Characters.{is_escape_letter}
use Rattle.sparql_lexer.specs.Pattern.{character}
use Rattle.sparql_lexer.specs.Enclosed.{numbered}
use Rattle.sparql_lexer.proofs.PatternLaws.{only_right, left_at, nowhere}
use Rattle.sparql_lexer.proofs.ProductionLaws.{letter_or_number}
use Rattle.sparql_lexer.proofs.enclosed.skip_escaped.Goals as goal

pub returns-in-Some : goal.returns-in-Some
returns-in-Some c = left_at (character is_escape_letter) numbered c.args.text.now c.in-Some.after.now (nowhere letter_or_number c.in-Some.ensures.matches) c.in-Some.ensures

pub returns : goal.returns
returns c = only_right (character is_escape_letter) numbered c.args.text.now c.skip_numbered.result c.in_default.ensures c.skip_numbered.ensures
