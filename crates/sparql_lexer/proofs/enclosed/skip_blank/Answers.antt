use Rattle.sparql_lexer.specs.Characters.{is_space}
use Rattle.sparql_lexer.specs.Pattern.{character}
use Rattle.sparql_lexer.specs.Enclosed.{comment}
use Rattle.sparql_lexer.proofs.PatternLaws.{only_right, left_at, nowhere}
use Rattle.sparql_lexer.proofs.ProductionLaws.{space_or_comment}
use Rattle.sparql_lexer.proofs.enclosed.skip_blank.Goals as goal

pub returns-in-Some : goal.returns-in-Some
returns-in-Some c = left_at (character is_space) comment c.args.text.now c.in-Some.after.now (nowhere space_or_comment c.in-Some.ensures.matches) c.in-Some.ensures

pub returns : goal.returns
returns c = only_right (character is_space) comment c.args.text.now c.skip_comment.result c.in_default.ensures c.skip_comment.ensures
