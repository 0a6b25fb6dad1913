use Rattle.std.proofs.Common.{None}
use Rattle.sparql_lexer.specs.Pattern.{some, ◌▸◌}
use Rattle.sparql_lexer.specs.Numbers.{digit, exponent}
use Rattle.sparql_lexer.proofs.PatternLaws.{then_none, then_sure}
use Rattle.sparql_lexer.proofs.ProductionLaws.{sure_is, digit_exponent, some_then}
use Rattle.sparql_lexer.proofs.numbers.skip_fraction.Goals as goal

pub returns-in_err-fraction : goal.returns-in_err-fraction
returns-in_err-fraction c = rw c.from_residual-in_err-fraction.ensures (then_sure (some digit ▸ exponent) None (sure_is 46) c.in_ok-point.ensures.matches (then_none (some digit) exponent c.in_ok-point.point.now c.in_err-fraction.ensures))

pub returns : goal.returns
returns c = then_sure (some digit ▸ exponent) c.skip_exponent.result (sure_is 46) c.in_ok-point.ensures.matches (some_then exponent c.skip_exponent.result digit_exponent c.in_ok-fraction.ensures c.skip_exponent.ensures)
