use Rattle.std.proofs.Common.{None}
use Rattle.sparql_lexer.specs.Pattern.{is, many, ◌▸◌}
use Rattle.sparql_lexer.specs.Numbers.{digit, exponent}
use Rattle.sparql_lexer.proofs.PatternLaws.{then_none, then_sure}
use Rattle.sparql_lexer.proofs.ProductionLaws.{sure_is, digit_point, digit_exponent, many_then, some_then}
use Rattle.sparql_lexer.proofs.numbers.skip_pointed.Goals as goal

pub returns-in_err-point : goal.returns-in_err-point
returns-in_err-point c = rw c.from_residual-in_err-point.ensures (some_then (is 46 ▸ many digit ▸ exponent) None (digit_point (many digit ▸ exponent)) c.in_ok-whole.ensures (then_none (is 46) (many digit ▸ exponent) c.in_ok-whole.whole.now c.in_err-point.ensures))

pub returns : goal.returns
returns c = some_then (is 46 ▸ many digit ▸ exponent) c.skip_exponent.result (digit_point (many digit ▸ exponent)) c.in_ok-whole.ensures (then_sure (many digit ▸ exponent) c.skip_exponent.result (sure_is 46) c.in_ok-point.ensures.matches (many_then exponent c.skip_exponent.result digit_exponent c.skip-fraction.ensures c.skip_exponent.ensures))
