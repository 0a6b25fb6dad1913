use Rattle.sparql_lexer.specs.Pattern.{character, some, perhaps, ◌▸◌}
use Rattle.sparql_lexer.specs.Numbers.{digit, is_plus_or_minus, is_exponent_letter}
use Rattle.sparql_lexer.proofs.PatternLaws.{sure_character, then_sure}
use Rattle.sparql_lexer.proofs.numbers.skip_exponent.Goals as goal

pub returns : goal.returns
returns c = then_sure (perhaps (character is_plus_or_minus) ▸ some digit) c.skip_signed_digits.result (sure_character is_exponent_letter) c.in_ok-after.ensures.matches c.skip_signed_digits.ensures
