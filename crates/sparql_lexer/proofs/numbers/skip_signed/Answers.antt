use Rattle.sparql_lexer.specs.Forms.{number_of}
use Rattle.sparql_lexer.specs.Numbers.{is_plus_or_minus}
use Rattle.sparql_lexer.proofs.PatternLaws.{sure_character, then_sure}
use Rattle.sparql_lexer.proofs.numbers.skip_signed.Goals as goal

pub returns : goal.returns
returns c = then_sure (number_of c.args.form) c.skip_number.result (sure_character is_plus_or_minus) c.in_ok-after.ensures.matches c.skip_number.ensures
