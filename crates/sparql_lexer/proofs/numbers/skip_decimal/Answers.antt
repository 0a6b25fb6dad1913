use Rattle.std.proofs.Common.{None}
use Rattle.sparql_lexer.specs.Pattern.{is, some, ◌▸◌}
use Rattle.sparql_lexer.specs.Numbers.{digit}
use Rattle.sparql_lexer.proofs.PatternLaws.{then_none, then_sure}
use Rattle.sparql_lexer.proofs.ProductionLaws.{sure_is, digit_point, many_then}
use Rattle.sparql_lexer.proofs.numbers.skip_decimal.Goals as goal

pub returns-in_err-point : goal.returns-in_err-point
returns-in_err-point c = rw c.from_residual.ensures (many_then (is 46 ▸ some digit) None (digit_point (some digit)) c.skip-whole.ensures (then_none (is 46) (some digit) c.skip-whole.result.now c.in_err-point.ensures))

pub returns : goal.returns
returns c = many_then (is 46 ▸ some digit) c.skip_some.result (digit_point (some digit)) c.skip-whole.ensures (then_sure (some digit) c.skip_some.result (sure_is 46) c.in_ok-point.ensures.matches c.skip_some.ensures)
