use Rattle.sparql_lexer.specs.Pattern.{character, some}
use Rattle.sparql_lexer.specs.Numbers.{digit, is_plus_or_minus}
use Rattle.sparql_lexer.proofs.PatternLaws.{sure_character, then_sure, perhaps_taken, perhaps_left_out, nowhere}
use Rattle.sparql_lexer.proofs.ProductionLaws.{sign_digits}
use Rattle.sparql_lexer.proofs.numbers.skip_signed_digits.Goals as goal

pub returns-in-Some : goal.returns-in-Some
returns-in-Some c = perhaps_taken (character is_plus_or_minus) (some digit) c.args.text.now c.skip_some.result (nowhere sign_digits c.in-Some.ensures.matches) (then_sure (some digit) c.skip_some.result (sure_character is_plus_or_minus) c.in-Some.ensures.matches c.skip_some.ensures)

pub returns-in-None : goal.returns-in-None
returns-in-None c = perhaps_left_out (character is_plus_or_minus) (some digit) c.args.text.now c.skip_some-in-None.result c.in-None.ensures c.skip_some-in-None.ensures
