use Rattle.sparql_lexer.specs.Numbers.{exponent}
use Rattle.sparql_lexer.proofs.ProductionLaws.{digit_exponent, some_then}
use Rattle.sparql_lexer.proofs.numbers.skip_whole.Goals as goal

pub returns : goal.returns
returns c = some_then exponent c.skip_exponent.result digit_exponent c.in_ok-whole.ensures c.skip_exponent.ensures
